-- Each packet that is sent is cut as a collector needs it.
use Rattle.std.proofs.Common.{ℕ, ◌≡◌, ◌≤◌, true, false, List, length, refl, arith}
use Rattle.std.proofs.lemmas.Bool.{eq-eqb}
use Rattle.dcp_af.specs.Packet.{AfPacket, IsAf}
use Rattle.dcp_af.proofs.Spellings.{placed}
use Rattle.dcp_pft.specs.declared.shape.Shape.{Shape}
use Rattle.dcp_pft.specs.Cutting.{shape_of, IsShapeOf}
use Rattle.dcp_pft.specs.Loss.{is_recoverable}
use Rattle.dcp_pft.proofs.Carried.{is_shape}
use Rattle.dcp_pft.proofs.Payloads.{shape_is_taken}
use Rattle.dcp_collect.specs.Fragments.{agree}
use Rattle.dcp_pft.specs.declared.carry.Carry.{Carry}
use Rattle.dcp_pft.specs.declared.carry.Carry.TheVariants.{Plain, Pft}
use Rattle.dcp_pft.specs.Carrying.{CarryFits, shape_under}
use Rattle.law_collect.specs.Delivery.{IsPacketWith}
use Rattle.law_collect.proofs.Sent.{head_of, IsCut}
use Rattle.law_collect.proofs.Unique.{OneDecoding}
use Rattle.law_collect.proofs.Heads.{cut_agree, cut_needed, cut_same_shape, is_full, none_all}
use Rattle.law_collect.proofs.SentDecoded.{cut_decoded, whole_decoded}

-- a packet has its head and check value
pub packet_long : (af : AfPacket) (packet : List ℕ) → IsAf af packet → 12 ≤ length packet
packet_long af packet is = (placed af is.0 packet is.1).kind.0.0.0.1

-- its length can be cut
pub shape_is : (m mtu sequence : ℕ) (packet : List ℕ) → CarryFits (Pft m mtu) → IsPacketWith (Pft m mtu) sequence packet
    → IsShapeOf (length packet) (shape_of (length packet) m mtu)
shape_is m mtu sequence packet fits is = is_shape m mtu (length packet) fits (omega (arith, packet_long is.af packet is.is_af)) is.small

whole_agree : (packet : List ℕ) (i j : ℕ) → i ≡ j → agree (head_of Plain packet i) (head_of Plain packet j) ≡ true
unfolding agree
whole_agree packet i j same = rw (same, eq-eqb j j refl, eq-eqb (length packet) (length packet) refl)

whole_needed : (packet : List ℕ) → is_recoverable (shape_under Plain (length packet)) (λ i. false) ≡ false
unfolding is_recoverable
whole_needed packet = none_all 1 (omega arith)

whole_cut : (one_decoding : OneDecoding) (packet : List ℕ) → IsCut Plain packet
whole_cut one_decoding packet = record {
  counts = λ i below. refl;
  indices = λ i below. refl;
  agrees = λ i j below within. whole_agree packet i j (omega arith);
  same_shape = λ i kept below. refl;
  some_needed = whole_needed packet;
  decoded = whole_decoded packet;
  decoded_only = λ fs bytes are rise enough is. one_decoding fs packet bytes enough (whole_decoded packet fs are rise enough) is;
}

shape_cut : (one_decoding : OneDecoding) (m mtu : ℕ) (packet : List ℕ) → IsShapeOf (length packet) (shape_of (length packet) m mtu) → IsCut (Pft m mtu) packet
shape_cut one_decoding m mtu packet is =
    let shape : Shape = shape_of (length packet) m mtu in
    let decoded = cut_decoded shape packet is in
    record {
      counts = λ i below. refl;
      indices = λ i below. refl;
      agrees = λ i j below within. cut_agree shape (length packet) i j (is_full (length packet) shape is) below within;
      same_shape = λ i kept below. cut_same_shape shape (length packet) i kept;
      some_needed = cut_needed (length packet) shape is (shape_is_taken (length packet) shape is).some;
      decoded = decoded;
      decoded_only = λ fs bytes are rise enough h. one_decoding fs packet bytes enough (decoded fs are rise enough) h;
    }

pub sent_cut : (one_decoding : OneDecoding) (carry : Carry) (sequence : ℕ) (packet : List ℕ) → CarryFits carry → IsPacketWith carry sequence packet
    → IsCut carry packet
sent_cut one_decoding Plain sequence packet carried is = whole_cut one_decoding packet
sent_cut one_decoding (Pft m mtu) sequence packet carried is = shape_cut one_decoding m mtu packet (shape_is m mtu sequence packet carried is)
