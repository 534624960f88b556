-- The datagrams of two schedules, as far as they agree.
use Rattle.std.proofs.Common.{◌≡◌, ◌+◌, ◌-◌, ◌*◌, ◌<◌, ◌≤◌, ℕ, zero, suc, List, [], ◌∷◌, ◌++◌, length, get_or, None, Some, refl, sym, ap, subst, ◌∙◌, arith, append_assoc}
use Rattle.std.proofs.Math.Seq.{get_or-append_seam}
use Rattle.std.proofs.lemmas.List.{append-nil}
use Rattle.dcp_pft.specs.declared.carry.Carry.{Carry}
use Rattle.dcp_pft.specs.declared.carry.Carry.TheVariants.{Plain, Pft}
use Rattle.dcp_pft.specs.Carrying.{CarriesPacket}
use Rattle.dcp_pft.proofs.OneFragment.{one_datagram}
use Rattle.drm_schedule.specs.declared.plan.Plan.{Plan}
use Rattle.drm_timeline.specs.Numbers.{frame_count, sequence_number}
use Rattle.drm_server.specs.Stretch.{frames_in}
use Rattle.drm_server.specs.Datagrams.{IsDatagramAt, AreFirst, AreOfFrame, AreOfFrames}
use Rattle.drm_server.proofs.DatagramLemmas.{first_length}
use Rattle.drm_server.proofs.OneDelivery.{below_count, first_split, one_of_frame}
use Rattle.drm_server.proofs.OnePacket.{one_packet, some_bytes}
use Rattle.drm_compare.specs.Agreement.{SameDatagrams, AgreeBelow}
use Rattle.law_changeover.specs.Laws.{HoldsBelow, SentAsOne}

pub holds_below : HoldsBelow
holds_below plan other n m is less =
    let a = is.agree in
    let within = a.within in
    let within_other = a.within_other in
    record { within = omega (arith, less, within); within_other = omega (arith, less, within_other); same = λ t below. a.same t (omega (arith, below, less)) }

-- ---- frames

moved_frame : (plan other : Plan) (t : ℕ) (datagrams : List (List ℕ)) → SameDatagrams plan other t → AreOfFrame plan t datagrams → AreOfFrame other t datagrams
moved_frame plan other t datagrams (both, mine, theirs) are =
    subst (λ (l : List (List ℕ)). AreOfFrame other t l) (one_of_frame one_datagram plan t both datagrams mine are) theirs

moved_frames : (plan other : Plan) (n first m : ℕ) (datagrams : List (List ℕ)) → AgreeBelow plan other n → first + m ≤ 3 * n → AreOfFrames plan first m datagrams → AreOfFrames other first m datagrams
moved_frames plan other n first zero datagrams agree within are = are
moved_frames plan other n first (suc m) datagrams agree within (before, of_frame, are, is, same) = (
  before,
  of_frame,
  moved_frames plan other n first m before agree (omega (arith, within)) are,
  moved_frame plan other (first + m) of_frame (agree.same (first + m) (omega (arith, within))) is,
  same,
)

-- some frames, and more behind them
joined : (plan : Plan) (first m k : ℕ) (xs ys : List (List ℕ)) → AreOfFrames plan first m xs → AreOfFrames plan (first + m) k ys → AreOfFrames plan first (m + k) (xs ++ ys)
joined plan first m zero xs ys are more =
    let none : xs ++ ys ≡ xs = ap (λ (l : List (List ℕ)). xs ++ l) more ∙ append-nil xs in
    let same : m ≡ m + zero = omega arith in
    subst (λ (n : ℕ). AreOfFrames plan first n (xs ++ ys)) same (subst (λ (l : List (List ℕ)). AreOfFrames plan first m l) (sym none) are)
joined plan first m (suc k) xs ys are (before, of_frame, others, is, same) =
    let one : suc (m + k) ≡ m + suc k = omega arith in
    let at : first + m + k ≡ first + (m + k) = omega arith in
    let whole : xs ++ ys ≡ (xs ++ before) ++ of_frame = ap (λ (l : List (List ℕ)). xs ++ l) same ∙ sym (append_assoc xs before of_frame) in
    subst (λ (n : ℕ). AreOfFrames plan first n (xs ++ ys)) one
    (longer (xs ++ before) (joined plan first m k xs before are others) (subst (λ (t : ℕ). AreOfFrame plan t of_frame) at is) whole)
  where
    longer : (front : List (List ℕ)) → AreOfFrames plan first (m + k) front → AreOfFrame plan (first + (m + k)) of_frame → xs ++ ys ≡ front ++ of_frame → AreOfFrames plan first (suc (m + k)) (xs ++ ys)
    longer front firsts last all = (front, of_frame, firsts, last, all)

-- how many frames are sent up to a super frame, and from one on
count_between : (plan : Plan) (f n : ℕ) → n ≤ plan.length → frames_in (record { from = f; until = Some n }) plan ≡ 3 * n - 3 * f
unfolding frames_in
count_between plan f n within = omega (arith, within)

count_from : (plan : Plan) (f : ℕ) → frames_in (record { from = f; until = None }) plan ≡ frame_count plan - 3 * f
unfolding frames_in
count_from plan f = refl

pub sent_as_one : SentAsOne
sent_as_one plan other f n before behind agree from are later =
    let within = agree.within_other in
    let at : 3 * n ≡ 3 * f + (3 * n - 3 * f) = omega (arith, from) in
    let all : 3 * n - 3 * f + (frame_count other - 3 * n) ≡ frames_in (record { from = f; until = None }) other =
    (let k = count_from other f in omega (arith, from, within, k)) in
    subst (λ (k : ℕ). AreOfFrames other (3 * f) k (before ++ behind)) all
    (joined other (3 * f) (3 * n - 3 * f) (frame_count other - 3 * n) before behind
    (moved_frames plan other n (3 * f) (3 * n - 3 * f) before agree (omega (arith, at))
    (subst (λ (k : ℕ). AreOfFrames plan (3 * f) k before) (count_between plan f n agree.within) are))
    (subst (λ (t : ℕ). AreOfFrames other t (frame_count other - 3 * n) behind) at (subst (λ (k : ℕ). AreOfFrames other (3 * n) k behind) (count_from other n) later)))

-- ---- single datagrams

one_carried : (carry : Carry) (seq i : ℕ) (packet datagram other : List ℕ) → 1 ≤ length packet → CarriesPacket carry seq packet i datagram → CarriesPacket carry seq packet i other → datagram ≡ other
one_carried Plain seq i packet datagram other some x y = x ∙ sym y
one_carried (Pft m mtu) seq i packet datagram other some x y = one_datagram m mtu seq i packet other datagram some y x

one_at : (plan : Plan) (t i : ℕ) (datagram other : List ℕ) → IsDatagramAt plan t i datagram → IsDatagramAt plan t i other → datagram ≡ other
one_at plan t i datagram other x y =
    let same : x.packet ≡ y.packet = one_packet plan t x.packet y.packet x.is_packet y.is_packet in
    one_carried plan.carry (sequence_number plan t) i y.packet datagram other (some_bytes plan t y.packet y.is_packet)
    (subst (λ (p : List ℕ). CarriesPacket plan.carry (sequence_number plan t) p i datagram) same x.is) y.is

at_place : (plan : Plan) (t i count : ℕ) (datagrams : List (List ℕ)) → i < count → AreFirst plan t count datagrams → IsDatagramAt plan t i (get_or datagrams i [])
at_place plan t i count datagrams below are =
    let (first, next, behind, firsts, is, same) = first_split plan t i count datagrams below are in
    let seam : get_or datagrams i [] ≡ next =
    ap (λ (l : List (List ℕ)). get_or l i []) same
    ∙ ap (λ (n : ℕ). get_or (first ++ next ∷ behind) n []) (sym (first_length plan t i first firsts)) ∙ get_or-append_seam first next behind [] in
    subst (λ (d : List ℕ). IsDatagramAt plan t i d) (sym seam) is

-- a datagram of a frame that both have is that of the other, with the same number
pub moved_datagram : (plan other : Plan) (t i : ℕ) (datagram : List ℕ) → SameDatagrams plan other t → IsDatagramAt plan t i datagram → IsDatagramAt other t i datagram
moved_datagram plan other t i datagram (both, (count, has, are), (count', has', are')) is =
    let below : i < count = below_count plan t i count datagram is has in
    let below' : i < count' = omega (arith, below, first_length plan t count both are, first_length other t count' both are') in
    let same : get_or both i [] ≡ datagram = one_at plan t i (get_or both i []) datagram (at_place plan t i count both below are) is in
    subst (λ (d : List ℕ). IsDatagramAt other t i d) same (at_place other t i count' both below' are')
