-- Packets of a schedule, one after another, that a conversion is given.
use Rattle.std.proofs.Common.{ℕ, zero, suc, ◌≡◌, ◌+◌, ◌<◌, inl, inr, true, List, [], ◌∷◌, ◌++◌, length, map, refl, sym, ap₂, subst, ◌∙◌, arith, append_assoc}
use Rattle.std.specs.List.{concat, range_with_len}
use Rattle.std.proofs.lemmas.List.{append-nil}
use Rattle.std.proofs.lemmas.List.Folds.{concat-append}
use Rattle.dcp_af.proofs.Answered.{no_fault}
use Rattle.dcp_pft.specs.declared.carry.Carry.{Carry}
use Rattle.dcp_collect.specs.Runs.{CollectorItem, Packet}
use Rattle.drm_schedule.specs.declared.plan.Plan.{Plan}
use Rattle.drm_timeline.specs.Numbers.{frame_count, sequence_number}
use Rattle.drm_server.specs.Frames.{IsPacketAt}
use Rattle.drm_server.specs.Datagrams.{AreOfFrame, AreOfFrames}
use Rattle.drm_server.proofs.DatagramLemmas.{next_frame}
use Rattle.cmd_convert.specs.Converting.{ItemOutput, ConvertsItem, ConvertsAll, text_of, lines_of}
use Rattle.law_delivery.specs.OtherCarry.{under}
use Rattle.law_convert.specs.Laws.{IsFirstOf}
use Rattle.law_convert.proofs.Frames.{IsOfFrame, of_frame}

-- The item is the packet of frame t.
pub record IsPacketOf (plan : Plan) (t : ℕ) (item : CollectorItem) : Type 0 where
  pub packet : List ℕ
  pub within : t < frame_count plan
  pub is : IsPacketAt plan t packet
  pub same : item ≡ Packet t packet

-- they are the packets of the frames from frame t on
abbrev pub AreFrom : Plan → ℕ → List CollectorItem → Type 0
AreFrom plan t [] = Unit {0}
AreFrom plan t (item ∷ items) = IsPacketOf plan t item × AreFrom plan (t + 1) items

pub from_each : (plan : Plan) (of : ℕ → CollectorItem) (t n : ℕ) → ((q : ℕ) → q < t + n → IsPacketOf plan q (of q)) → AreFrom plan t (map of (range_with_len t n))
from_each plan of t zero each = tt
from_each plan of t (suc n) each = (each t (omega arith), from_each plan of (t + 1) n (λ q within. each q (omega (arith, within))))

-- what is written of one, and that no line names it
part_of : (plan : Plan) (carry : Carry) (n t : ℕ) (packet : List ℕ) (part : ItemOutput) → IsPacketAt plan t packet → IsFirstOf plan n → ConvertsItem carry n (Packet t packet) part
    → IsOfFrame (under carry plan) t part.out × (part.line ≡ [])
part_of plan carry n t packet part at first (inl (any, small, carried, none)) = (of_frame plan carry n t packet part.out at first carried, none)
part_of plan carry n t packet part at first (inr (fault, is, none, line)) =
    absurd (no_fault (record { seq = sequence_number plan t; checked = true; minor = 0; payload = at.payload }) fault packet at.is is)

-- The parts are written as the datagrams of so many frames behind those before them, and no line names any.
pub record IsWritten (plan : Plan) (count : ℕ) (before : List (List ℕ)) (parts : List ItemOutput) : Type 0 where
  pub datagrams : List (List ℕ)
  pub are : AreOfFrames plan 0 count (before ++ datagrams)
  pub text : text_of parts ≡ concat datagrams
  pub lines : lines_of parts ≡ []

module _ (plan : Plan) (carry : Carry) (n : ℕ) (first : IsFirstOf plan n) where
  pub all_written : (t : ℕ) (before : List (List ℕ)) (items : List CollectorItem) (parts : List ItemOutput) → AreFrom plan t items → AreOfFrames (under carry plan) 0 t before
      → ConvertsAll carry n items parts → IsWritten (under carry plan) (t + length items) before parts
  all_written t before [] [] are stand converts = record {
    datagrams = [];
    are = let same : before ≡ before ++ [] = sym (append-nil before) in
        let count : t ≡ t + 0 = omega arith in
        subst (λ k. AreOfFrames (under carry plan) 0 k (before ++ [])) count (subst (λ l. AreOfFrames (under carry plan) 0 t l) same stand);
    text = refl;
    lines = refl;
  }
  all_written t before [] (part ∷ parts) are stand converts = absurd converts
  all_written t before (item ∷ items) [] are stand converts = absurd converts
  all_written t before (item ∷ items) (part ∷ parts) (at, are) stand (converts, more) =
      let here : ConvertsItem carry n (Packet t at.packet) part = subst (λ i. ConvertsItem carry n i part) at.same converts in
      let (frame, none) = part_of plan carry n t at.packet part at.is first here in
      let mine : List (List ℕ) = frame.0 in
      let numbered : t ≡ 0 + t = omega arith in
      let next : AreOfFrames (under carry plan) 0 (t + 1) (before ++ mine) =
      next_frame (under carry plan) 0 t before mine stand (subst (λ k. AreOfFrame (under carry plan) k mine) numbered frame.1) in
      let rest = all_written (t + 1) (before ++ mine) items parts are next more in
      let count : (t + 1) + length items ≡ t + suc (length items) = omega arith in
      record {
        datagrams = mine ++ rest.datagrams;
        are = subst (λ k. AreOfFrames (under carry plan) 0 k (before ++ (mine ++ rest.datagrams))) count
            (subst (λ l. AreOfFrames (under carry plan) 0 ((t + 1) + length items) l) (append_assoc before mine rest.datagrams) rest.are);
        text = ap₂ (λ a b. a ++ b) frame.2 rest.text ∙ sym (concat-append mine rest.datagrams);
        lines = ap₂ (λ a b. a ++ b) none rest.lines;
      }
