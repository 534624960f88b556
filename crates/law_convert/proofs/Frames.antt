-- The datagrams that a packet of a schedule becomes are those of its frame under the other carry.
use Rattle.std.proofs.Common.{ℕ, zero, suc, ◌≡◌, ◌<◌, ◌≤◌, List, [], length, take, slice_index_or, refl, subst, arith}
use Rattle.std.specs.List.{concat}
use Rattle.std.proofs.Math.Seq.{take-suc}
use Rattle.std.proofs.lemmas.List.{take_all}
use Rattle.dcp_pft.specs.declared.carry.Carry.{Carry}
use Rattle.dcp_pft.specs.Carrying.{datagram_count, CarriesPacket}
use Rattle.drm_schedule.specs.declared.plan.Plan.{Plan}
use Rattle.drm_timeline.specs.Numbers.{sequence_number}
use Rattle.drm_server.specs.Frames.{IsPacketAt}
use Rattle.drm_server.specs.Datagrams.{IsDatagramAt, AreFirst, AreOfFrame}
use Rattle.dcp_sender.specs.CarriesText.{CarriesText}
use Rattle.dcp_sender.specs.Packets.{sequence_of}
use Rattle.law_delivery.specs.OtherCarry.{under}
use Rattle.law_convert.specs.Laws.{IsFirstOf}
use Rattle.law_delivery.proofs.OtherCarry.{packet_under}

-- some first ones of a list in which each place has its datagram
first_ones : (plan : Plan) (t : ℕ) (datagrams : List (List ℕ)) → ((i : ℕ) → i < length datagrams → IsDatagramAt plan t i (slice_index_or datagrams i []))
    → (i : ℕ) → i ≤ length datagrams → AreFirst plan t i (take i datagrams)
first_ones plan t datagrams each zero within = refl
first_ones plan t datagrams each (suc i) within = (
  take i datagrams,
  slice_index_or datagrams i [],
  first_ones plan t datagrams each i (omega (arith, within)),
  each i (omega (arith, within)),
  take-suc datagrams i [] (omega (arith, within)),
)

same_sequence : (plan : Plan) (n t : ℕ) → IsFirstOf plan n → sequence_of n t ≡ sequence_number plan t
same_sequence plan n t first = omega (arith, first)

-- The text is that of the datagrams of a frame.
abbrev pub IsOfFrame : Plan → ℕ → List ℕ → Type 0
IsOfFrame plan t text = (datagrams : List (List ℕ)) × AreOfFrame plan t datagrams × (text ≡ concat datagrams)

pub of_frame : (plan : Plan) (carry : Carry) (n t : ℕ) (packet text : List ℕ) → IsPacketAt plan t packet → IsFirstOf plan n → CarriesText carry (sequence_of n t) packet text
    → IsOfFrame (under carry plan) t text
of_frame plan carry n t packet text at first carried =
    let datagrams : List (List ℕ) = carried.datagrams in
    let count : ℕ = datagram_count carry (length packet) in
    let here : IsPacketAt (under carry plan) t packet = packet_under carry plan t packet at in
    let each : (i : ℕ) → i < length datagrams → IsDatagramAt (under carry plan) t i (slice_index_or datagrams i []) =
    λ i within. record {
      packet = packet;
      is_packet = here;
      within = omega (arith, within, carried.are.many);
      is = subst (λ s. CarriesPacket carry s packet i (slice_index_or datagrams i [])) (same_sequence plan n t first) (carried.are.each i [] within);
    } in
    let front : AreFirst (under carry plan) t (length datagrams) (take (length datagrams) datagrams) = first_ones (under carry plan) t datagrams each (length datagrams) (omega arith) in
    let all : AreFirst (under carry plan) t (length datagrams) datagrams = subst (λ l. AreFirst (under carry plan) t (length datagrams) l) (take_all (length datagrams) datagrams (omega arith)) front in (
      datagrams,
      (count, record { packet = packet; is_packet = here; is = refl }, subst (λ k. AreFirst (under carry plan) t k datagrams) carried.are.many all),
      carried.is,
    )
