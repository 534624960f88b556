-- The datagrams of a frame come of its packet and of how that is cut, and of nothing else.
use Rattle.std.proofs.Common.{◌≡◌, ◌↔◌, ℕ, Bool, true, false, ◌<◌, ◌≤◌, List, [], ◌∷◌, ◌++◌, length, get_or, Option, refl, sym, ap, subst, ◌∙◌, arith}
use Rattle.std.specs.Prelude.{IfSome, IsTrue}
use Rattle.std.specs.Bool.{Decides}
use Rattle.std.proofs.lemmas.Bool.{true≢false}
use Rattle.dcp_af.specs.Packet.{AfPacket}
use Rattle.dcp_af.proofs.Answered.{is_packet_at}
use Rattle.dcp_pft.specs.declared.carry.Carry.{Carry}
use Rattle.dcp_pft.specs.declared.carry.Carry.TheVariants.{Plain, Pft}
use Rattle.dcp_pft.specs.declared.shape.Shape.{Shape}
use Rattle.dcp_pft.specs.Limits.{most_packet}
use Rattle.dcp_pft.specs.Carrying.{CarryFits, cut_of, datagram_count, CarriesPacket}
use Rattle.dcp_pft.specs.Cutting.{IsShapeOf, shape_of}
use Rattle.dcp_pft.proofs.Carried.{is_shape}
use Rattle.dcp_pft.proofs.Payloads.{shape_is_taken}
use Rattle.dcp_sender.specs.Sending as sending
use Rattle.dcp_sender.proofs.OverLinks.{all_of}
use Rattle.drm_schedule.specs.declared.plan.Plan.{Plan}
use Rattle.drm_schedule.specs.Valid.{IsSchedule}
use Rattle.drm_timeline.specs.Numbers.{sequence_number}
use Rattle.drm_server.specs.Frames.{IsPacketAt}
use Rattle.drm_server.specs.Placed.{PlacedFrame}
use Rattle.drm_server.specs.Datagrams.{HasDatagrams, IsDatagramAt, AreFirst}
use Rattle.drm_server.proofs.DatagramLemmas.{first_length}
use Rattle.drm_server.proofs.FrameLemmas.{of_frame}
use Rattle.drm_server.proofs.OneDelivery.{at_place}
use Rattle.drm_server.proofs.OnePacket.{one_packet, some_bytes}
use Rattle.law_collect.proofs.Sent.{head_of}
use Rattle.drm_compare.specs.Agreement.{SameDatagrams}
use Rattle.drm_compare.proofs.SomeFragments.{some_datagrams}
use Rattle.drm_compare.proofs.Fragments as fragments
use Rattle.drm_compare.proofs.Fragments.{IsCarried, IsShared, shared, one_cut}

-- ---- a packet of a schedule

-- The packet of frame t of a schedule, no longer than its carry allows.
pub record IsOwn (plan : Plan) (t : ℕ) (packet : List ℕ) : Type 0 where
  pub valid : IsSchedule plan
  pub is : IsPacketAt plan t packet
  pub small : length packet ≤ most_packet plan.carry

-- so is what a frame has that was loaded
pub own_of : (placed : PlacedFrame) (t : ℕ) (plan : Plan) (packet : List ℕ) → plan ≡ placed.plan → IsSchedule plan → placed.frame ≡ t → IsPacketAt placed.plan placed.frame packet
    → length packet ≤ most_packet placed.plan.carry → IsOwn placed.plan t packet
own_of placed t plan packet same valid at is small =
    record { valid = subst IsSchedule same valid; is = subst (λ (n : ℕ). IsPacketAt placed.plan n packet) at is; small = small }

abbrev af_of : (plan : Plan) (t : ℕ) (packet : List ℕ) → IsPacketAt plan t packet → AfPacket
af_of plan t packet is = record { seq = sequence_number plan t; checked = true; minor = 0; payload = is.payload }

carried : (plan : Plan) (t : ℕ) (packet : List ℕ) → IsOwn plan t packet → IsCarried plan.carry (sequence_number plan t) packet
carried plan t packet own = record {
  fits = own.valid.in_lines.carry_fits;
  below = omega arith;
  is = record { af = af_of plan t packet own.is; is_af = own.is.is; seq = refl; small = own.small };
}

-- it has its sequence number in it
same_sequence : (plan other : Plan) (t : ℕ) (packet : List ℕ) → IsPacketAt plan t packet → IsPacketAt other t packet → sequence_number plan t ≡ sequence_number other t
same_sequence plan other t packet a b =
    ap (λ (af : AfPacket). af.seq) (sym (is_packet_at (af_of plan t packet a) packet a.is) ∙ is_packet_at (af_of other t packet b) packet b.is)

-- ---- the same packet, cut in the same way

shaped : (carry : Carry) (len : ℕ) → CarryFits carry → 1 ≤ len → len ≤ most_packet carry → IfSome (cut_of carry len) (IsShapeOf len)
shaped Plain len fits some small = tt
shaped (Pft m mtu) len fits some small = is_shape m mtu len fits some small

-- there is a datagram
some_count : (carry : Carry) (len : ℕ) → CarryFits carry → 1 ≤ len → len ≤ most_packet carry → 0 < datagram_count carry len
some_count Plain len fits some small = omega arith
some_count (Pft m mtu) len fits some small = (shape_is_taken len (shape_of len m mtu) (is_shape m mtu len fits some small)).some

module _ (plan other : Plan) (t : ℕ) (packet packet' : List ℕ) (own : IsOwn plan t packet) (own' : IsOwn other t packet') where
  pub have_same : packet ≡ packet' → cut_of plan.carry (length packet) ≡ cut_of other.carry (length packet') → SameDatagrams plan other t
  have_same same cut =
      let is' : IsPacketAt other t packet = subst (λ (p : List ℕ). IsPacketAt other t p) (sym same) own'.is in
      let cut' : cut_of other.carry (length packet) ≡ cut_of plan.carry (length packet) = ap (λ (p : List ℕ). cut_of other.carry (length p)) same ∙ sym cut in
      let seq : sequence_number plan t ≡ sequence_number other t = same_sequence plan other t packet own.is is' in
      let cut_as : Option Shape = cut_of plan.carry (length packet) in
      let all = some_datagrams cut_as (sequence_number plan t) packet (shaped plan.carry (length packet) own.valid.in_lines.carry_fits (some_bytes plan t packet own.is) own.small) own.is.octets in
      let all' : sending.AreAll cut_as (sequence_number other t) packet all.0 = subst (λ (n : ℕ). sending.AreAll cut_as n packet all.0) seq all.1 in (
        all.0,
        of_frame plan t packet all.0 own.is (all_of plan.carry (sequence_number plan t) packet cut_as all.0 refl all.1),
        of_frame other t packet all.0 is' (all_of other.carry (sequence_number other t) packet cut_as all.0 cut' all'),
      )

-- ---- and the other way round

-- datagram i of a frame carries this part of its packet
carries : (plan : Plan) (t i : ℕ) (packet datagram : List ℕ) → IsPacketAt plan t packet → IsDatagramAt plan t i datagram
    → (i < datagram_count plan.carry (length packet)) × CarriesPacket plan.carry (sequence_number plan t) packet i datagram
carries plan t i packet datagram is at =
    let same : at.packet ≡ packet = one_packet plan t at.packet packet at.is_packet is in
    subst (λ (p : List ℕ). (i < datagram_count plan.carry (length p)) × CarriesPacket plan.carry (sequence_number plan t) p i datagram) same (at.within, at.is)

module _ (plan other : Plan) (t : ℕ) (packet packet' : List ℕ) (own : IsOwn plan t packet) (own' : IsOwn other t packet') where
  abbrev Shared : ℕ → Type 0
  Shared i = IsShared plan.carry (sequence_number plan t) packet (carried plan t packet own) other.carry (sequence_number other t) packet' (carried other t packet' own') i

  each_shared : (datagrams : List (List ℕ)) (count count' : ℕ) → HasDatagrams plan t count → AreFirst plan t count datagrams → AreFirst other t count' datagrams
      → (i : ℕ) → i < datagram_count plan.carry (length packet) → Shared i
  each_shared datagrams count count' has are are' i below =
      let whole : has.packet ≡ packet = one_packet plan t has.packet packet has.is_packet own.is in
      let all : count ≡ datagram_count plan.carry (length packet) = has.is ∙ ap (λ (p : List ℕ). datagram_count plan.carry (length p)) whole in
      let within : i < count = omega (arith, below, all) in
      let within' : i < count' = omega (arith, within, first_length plan t count datagrams are, first_length other t count' datagrams are') in
      let a = carries plan t i packet (get_or datagrams i []) own.is (at_place plan t i count datagrams within are) in
      let b = carries other t i packet' (get_or datagrams i []) own'.is (at_place other t i count' datagrams within' are') in
      shared plan.carry (sequence_number plan t) packet (carried plan t packet own) other.carry (sequence_number other t) packet' (carried other t packet' own')
      i (get_or datagrams i []) a.0 b.0 a.1 b.1

  pub only_same : SameDatagrams plan other t → (packet ≡ packet') × (cut_of plan.carry (length packet) ≡ cut_of other.carry (length packet'))
  only_same (datagrams, (count, has, are), (count', has', are')) =
      let some = some_count plan.carry (length packet) own.valid.in_lines.carry_fits (some_bytes plan t packet own.is) own.small in
      let each = each_shared datagrams count count' has are are' in
      let same : packet ≡ packet' =
      fragments.one_packet plan.carry (sequence_number plan t) packet (carried plan t packet own) other.carry (sequence_number other t) packet' (carried other t packet' own') some each in
      let heads : head_of plan.carry packet 0 ≡ head_of other.carry packet 0 = (each 0 some).heads ∙ ap (λ (p : List ℕ). head_of other.carry p 0) (sym same) in
      (same, one_cut plan.carry other.carry packet heads ∙ ap (λ (p : List ℕ). cut_of other.carry (length p)) same)

-- what a comparison of both answers
module _ (plan other : Plan) (t : ℕ) (packet packet' : List ℕ) (own : IsOwn plan t packet) (own' : IsOwn other t packet') (result : Bool) where
  pub same_packets : packet ≡ packet' → (cut cut' : Option Shape) → cut ≡ cut_of plan.carry (length packet) → cut' ≡ cut_of other.carry (length packet') → Decides result (cut ≡ cut')
      → IsTrue result ↔ SameDatagrams plan other t
  same_packets same cut cut' is is' decides = (
    λ yes. have_same plan other t packet packet' own own' same (sym is ∙ decides.0 yes ∙ is'),
    λ agree. decides.1 (is ∙ (only_same plan other t packet packet' own own' agree).1 ∙ sym is'),
  )

  pub other_packets : (packet ≡ packet' → ⊥) → result ≡ false → IsTrue result ↔ SameDatagrams plan other t
  other_packets differ not_so = (
    λ yes. absurd (true≢false (sym yes ∙ not_so)),
    λ agree. absurd (differ (only_same plan other t packet packet' own own' agree).0),
  )
