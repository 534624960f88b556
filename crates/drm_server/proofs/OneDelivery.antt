-- A schedule has one list of datagrams, of which those before a certain one are the front.
use Rattle.std.proofs.Common.{◌≡◌, ◌+◌, ◌<◌, ◌≤◌, ℕ, zero, suc, List, [], ◌∷◌, ◌++◌, length, get_or, refl, sym, ap, subst, ◌∙◌, ⊎_elim, arith, append_assoc}
use Rattle.std.proofs.lemmas.Bool.{cases_lt}
use Rattle.std.proofs.Math.Seq.{get_or-append_seam}
use Rattle.std.proofs.lemmas.List.{append-nil}
use Rattle.std.specs.List.{concat}
use Rattle.dcp_pft.specs.declared.carry.Carry.{Carry}
use Rattle.dcp_pft.specs.declared.carry.Carry.TheVariants.{Plain, Pft}
use Rattle.drm_schedule.specs.declared.plan.Plan.{Plan}
use Rattle.dcp_pft.specs.Laws.{OneFragment}
use Rattle.drm_timeline.specs.Numbers.{sequence_number}
use Rattle.drm_server.specs.declared.stretch.Stretch.{Stretch}
use Rattle.drm_server.specs.Stretch.{first_in, frames_in}
use Rattle.dcp_pft.specs.Carrying.{CarriesPacket, datagram_count}
use Rattle.drm_server.specs.Datagrams.{HasDatagrams, HasDatagram, IsDatagramAt, AreFirst, AreOfFrame, AreOfFrames, AreDatagrams, AreBefore}
use Rattle.drm_server.specs.Capture.{IsCapture}
use Rattle.drm_server.proofs.DatagramLemmas.{first_length}
use Rattle.drm_server.proofs.OnePacket.{one_packet, some_bytes}

-- a frame has one number of datagrams
pub one_count : (plan : Plan) (t m n : ℕ) → HasDatagrams plan t m → HasDatagrams plan t n → m ≡ n
one_count plan t m n x y =
    let same : x.packet ≡ y.packet = one_packet plan t x.packet y.packet x.is_packet y.is_packet in
    x.is ∙ (ap (λ (p : List ℕ). datagram_count plan.carry (length p)) same ∙ sym y.is)

-- the number of a datagram is below it
pub below_count : (plan : Plan) (t i count : ℕ) (datagram : List ℕ) → IsDatagramAt plan t i datagram → HasDatagrams plan t count → i < count
below_count plan t i count datagram x y =
    let mine : HasDatagrams plan t (datagram_count plan.carry (length x.packet)) = record { packet = x.packet; is_packet = x.is_packet; is = refl } in
    let same : datagram_count plan.carry (length x.packet) ≡ count = one_count plan t (datagram_count plan.carry (length x.packet)) count mine y in
    omega (arith, x.within, same)

-- the i-th of some first datagrams, and those before it
pub first_split : (plan : Plan) (t i k : ℕ) (datagrams : List (List ℕ)) → i < k → AreFirst plan t k datagrams
    → (first : List (List ℕ)) × (next : List ℕ) × (behind : List (List ℕ)) × AreFirst plan t i first × IsDatagramAt plan t i next × (datagrams ≡ first ++ next ∷ behind)
first_split plan t i zero datagrams l are = absurd (omega arith)
first_split plan t i (suc k) datagrams l (before, datagram, are, is, same) =
    ⊎_elim
    (λ (less : i < k).
    let found = first_split plan t i k before less are in
    (found.0, found.1, found.2 ++ datagram ∷ [], found.3, found.4, same ∙ (ap (λ l. l ++ datagram ∷ []) found.5 ∙ append_assoc found.0 (found.1 ∷ found.2) (datagram ∷ []))))
    (λ (not : k ≤ i).
    let last : k ≡ i = omega arith in
    (before, datagram, [], subst (λ n. AreFirst plan t n before) last are, subst (λ n. IsDatagramAt plan t n datagram) last is, same))
    (cases_lt i k)

-- a frame's list has them at their places, and all of them
pub at_place : (plan : Plan) (t i count : ℕ) (datagrams : List (List ℕ)) → i < count → AreFirst plan t count datagrams → IsDatagramAt plan t i (get_or datagrams i [])
at_place plan t i count datagrams below are =
    let (first, next, behind, firsts, is, same) = first_split plan t i count datagrams below are in
    let seam : get_or datagrams i [] ≡ next =
    ap (λ (l : List (List ℕ)). get_or l i []) same
    ∙ ap (λ (n : ℕ). get_or (first ++ next ∷ behind) n []) (sym (first_length plan t i first firsts)) ∙ get_or-append_seam first next behind [] in
    subst (λ (d : List ℕ). IsDatagramAt plan t i d) (sym seam) is

pub as_many_as : (plan : Plan) (t : ℕ) (datagrams : List (List ℕ)) → AreOfFrame plan t datagrams → HasDatagrams plan t (length datagrams)
as_many_as plan t datagrams (count, has, are) = subst (HasDatagrams plan t) (sym (first_length plan t count datagrams are)) has

pub among_them : (plan : Plan) (t i : ℕ) (datagrams : List (List ℕ)) → AreOfFrame plan t datagrams → HasDatagram plan t i → (i < length datagrams) × IsDatagramAt plan t i (get_or datagrams i [])
among_them plan t i datagrams (count, has, are) (many, have, less) =
    let same : many ≡ count = one_count plan t many count have has in
    (omega (arith, less, same, first_length plan t count datagrams are), at_place plan t i count datagrams (omega (arith, less, same)) are)

-- the datagrams of frame t, and those before them
pub frames_split : (plan : Plan) (from t n : ℕ) (datagrams : List (List ℕ)) → t < n → AreOfFrames plan from n datagrams
    → (before : List (List ℕ)) × (of_frame : List (List ℕ)) × (behind : List (List ℕ)) × AreOfFrames plan from t before × AreOfFrame plan (from + t) of_frame × (datagrams ≡ before ++ (of_frame ++ behind))
frames_split plan from t zero datagrams l are = absurd (omega arith)
frames_split plan from t (suc n) datagrams l (before, of_frame, are, is, same) =
    ⊎_elim
    (λ (less : t < n).
    let found = frames_split plan from t n before less are in
    (found.0, found.1, found.2 ++ of_frame, found.3, found.4, same ∙ (ap (λ l. l ++ of_frame) found.5 ∙ (append_assoc found.0 (found.1 ++ found.2) of_frame ∙ ap (λ l. found.0 ++ l) (append_assoc found.1 found.2 of_frame)))))
    (λ (not : n ≤ t).
    let last : n ≡ t = omega arith in
    (before, of_frame, [], subst (λ k. AreOfFrames plan from k before) last are, subst (λ k. AreOfFrame plan (from + k) of_frame) last is, same ∙ ap (λ l. before ++ l) (sym (append-nil of_frame))))
    (cases_lt t n)

module _ (one_fragment : OneFragment) where
  one_carried : (carry : Carry) (seq i : ℕ) (packet datagram other : List ℕ) → 1 ≤ length packet → CarriesPacket carry seq packet i datagram → CarriesPacket carry seq packet i other → datagram ≡ other
  one_carried Plain seq i packet datagram other some x y = x ∙ sym y
  one_carried (Pft m mtu) seq i packet datagram other some x y = one_fragment m mtu seq i packet other datagram some y x

  one_datagram : (plan : Plan) (t i : ℕ) (datagram other : List ℕ) → IsDatagramAt plan t i datagram → IsDatagramAt plan t i other → datagram ≡ other
  one_datagram plan t i datagram other x y =
      let seq : ℕ = sequence_number plan t in
      let same : x.packet ≡ y.packet = one_packet plan t x.packet y.packet x.is_packet y.is_packet in
      one_carried plan.carry seq i y.packet datagram other (some_bytes plan t y.packet y.is_packet) (subst (λ (p : List ℕ). CarriesPacket plan.carry seq p i datagram) same x.is) y.is

  one_first : (plan : Plan) (t i : ℕ) (datagrams others : List (List ℕ)) → AreFirst plan t i datagrams → AreFirst plan t i others → datagrams ≡ others
  one_first plan t zero datagrams others x y = x ∙ sym y
  one_first plan t (suc i) datagrams others (before, datagram, are, is, same) (before', datagram', are', is', same') =
      same ∙ (ap (λ l. l ++ datagram ∷ []) (one_first plan t i before before' are are') ∙ (ap (λ d. before' ++ d ∷ []) (one_datagram plan t i datagram datagram' is is') ∙ sym same'))

  pub one_of_frame : (plan : Plan) (t : ℕ) (datagrams others : List (List ℕ)) → AreOfFrame plan t datagrams → AreOfFrame plan t others → datagrams ≡ others
  one_of_frame plan t datagrams others (count, has, are) (count', has', are') =
      let same : count ≡ count' = one_count plan t count count' has has' in
      one_first plan t count' datagrams others (subst (λ k. AreFirst plan t k datagrams) same are) are'

  one_of_frames : (plan : Plan) (from n : ℕ) (datagrams others : List (List ℕ)) → AreOfFrames plan from n datagrams → AreOfFrames plan from n others → datagrams ≡ others
  one_of_frames plan from zero datagrams others x y = x ∙ sym y
  one_of_frames plan from (suc n) datagrams others (before, of_frame, are, is, same) (before', of_frame', are', is', same') =
      same ∙ (ap (λ l. l ++ of_frame) (one_of_frames plan from n before before' are are') ∙ (ap (λ l. before' ++ l) (one_of_frame plan (from + n) of_frame of_frame' is is') ∙ sym same'))

  pub one_delivery : (plan : Plan) (stretch : Stretch) (datagrams others : List (List ℕ)) → AreDatagrams plan stretch datagrams → AreDatagrams plan stretch others → datagrams ≡ others
  one_delivery plan stretch datagrams others x y = one_of_frames plan (first_in stretch) (frames_in stretch plan) datagrams others x y

  pub one_capture : (plan : Plan) (stretch : Stretch) (bytes others : List ℕ) → IsCapture plan stretch bytes → IsCapture plan stretch others → bytes ≡ others
  one_capture plan stretch bytes others (datagrams, are, same) (datagrams', are', same') =
      same ∙ (ap concat (one_delivery plan stretch datagrams datagrams' are are') ∙ sym same')

  pub first_ones_are_prefix : (plan : Plan) (stretch : Stretch) (datagrams first : List (List ℕ)) (next : List ℕ) → AreDatagrams plan stretch datagrams → AreBefore plan stretch next first
      → (behind : List (List ℕ)) × (datagrams ≡ first ++ next ∷ behind)
  first_ones_are_prefix plan stretch datagrams first next are x =
      let from : ℕ = first_in stretch in
      let t : ℕ = from + x.n in
      let f = frames_split plan from x.n (frames_in stretch plan) datagrams x.within are in
      let g = first_split plan t x.i f.4.0 f.1 (below_count plan t x.i f.4.0 next x.is_next f.4.1) f.4.2 in
      let same_frames : f.0 ≡ x.of_frames = one_of_frames plan from x.n f.0 x.of_frames f.3 x.are_of_frames in
      let same_first : g.0 ≡ x.of_frame = one_first plan t x.i g.0 x.of_frame g.3 x.are_first in
      let same_next : g.1 ≡ next = one_datagram plan t x.i g.1 next g.4 x.is_next in
      let behind : List (List ℕ) = g.2 ++ f.2 in (
        behind,
        f.5 ∙ (ap (λ l. f.0 ++ (l ++ f.2)) g.5
            ∙ (ap (λ l. f.0 ++ l) (append_assoc g.0 (g.1 ∷ g.2) f.2)
            ∙ (ap (λ l. l ++ (g.0 ++ g.1 ∷ behind)) same_frames
            ∙ (ap (λ l. x.of_frames ++ (l ++ g.1 ∷ behind)) same_first
            ∙ (ap (λ d. x.of_frames ++ (x.of_frame ++ d ∷ behind)) same_next
            ∙ (sym (append_assoc x.of_frames x.of_frame (next ∷ behind))
            ∙ ap (λ l. l ++ next ∷ behind) (sym x.are))))))),
      )
