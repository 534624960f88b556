-- The datagrams of a delivery are read as what was sent.
use Rattle.std.proofs.Common.{ℕ, ◌≡◌, ◌^◌, ◌<◌, inl, inr, false, Option, Some, None, List, [], ◌∷◌, length, refl, sym, ap, ◌∙◌, subst, arith}
use Rattle.std.specs.List.{AllZip}
use Rattle.dcp_pft.specs.declared.shape.Rs.{Rs}
use Rattle.dcp_pft.specs.declared.shape.Shape.{Shape}
use Rattle.dcp_pft.specs.Cutting.{shape_of, IsShapeOf}
use Rattle.dcp_pft.specs.Coding.{payload_of}
use Rattle.dcp_pft.specs.Head.{PftFragment, fragment_of as fragment_of_packet}
use Rattle.dcp_pft.specs.Reading.{IsPft}
use Rattle.dcp_pft.proofs.Fragments.{with_rs}
use Rattle.dcp_pft.proofs.Payloads.{coded_payload_length, plain_payload_length, is_read_as_written}
use Rattle.dcp_collect.specs.Reading.{Brings, IsReadAs, whole_packet, fragment_of}
use Rattle.dcp_pft.specs.declared.carry.Carry.{Carry}
use Rattle.dcp_pft.specs.declared.carry.Carry.TheVariants.{Plain, Pft}
use Rattle.law_collect.specs.Delivery.{IsPacketWith, AreSent, sequence_at, IsDatagramAt, AreDelivered}
use Rattle.law_collect.proofs.Sent.{payload_size, head_of, BringsPair}
use Rattle.law_collect.proofs.Heads.{cut_head}
use Rattle.law_collect.proofs.SentCuts.{shape_is}

-- a fragment carries as many bytes as its head tells
size_by : (shape : Shape) (o : Option Rs) (packet parity : List ℕ) (i : ℕ) → shape.rs ≡ o
    → length (payload_of shape packet parity i) ≡ payload_size shape (length packet) i
size_by shape None packet parity i is =
    plain_payload_length shape packet parity i is ∙ ap (λ (o : Option Rs). payload_size (with_rs shape o) (length packet) i) (sym is)
size_by shape (Some rs) packet parity i is =
    coded_payload_length shape rs packet parity i is ∙ ap (λ (o : Option Rs). payload_size (with_rs shape o) (length packet) i) (sym is)

read_head : (shape : Shape) (sequence : ℕ) (packet parity : List ℕ) (i : ℕ)
    → (fragment_of (fragment_of_packet shape sequence packet parity i)).head ≡ cut_head shape (length packet) i
read_head shape sequence packet parity i =
    ap (λ (n : ℕ). record { whole = false; count = shape.count; index = i; len = n; rs = shape.rs }) (size_by shape shape.rs packet parity i refl)

sequence_small : (sequence0 p : ℕ) → sequence_at sequence0 p < 2 ^ 16
sequence_small sequence0 p = omega arith

module _ (sequence0 : ℕ) (packets : List (List ℕ)) (pair : ℕ × ℕ) (datagram : List ℕ) where
  brought_whole : (is : IsDatagramAt Plain sequence0 packets pair datagram) → IsPacketWith Plain (sequence_at sequence0 pair.0) is.packet
      → BringsPair Plain sequence0 packets pair datagram
  brought_whole is packet =
      let first : 0 ≡ pair.1 = omega (arith, is.within) in
      record {
        packet = is.packet;
        at = is.at;
        within = is.within;
        incoming = whole_packet packet.af is.packet;
        is_read = subst (λ d. IsReadAs (Brings (whole_packet packet.af is.packet)) d) (sym is.carries) (inl (packet.af, packet.is_af, omega (arith, packet.small), refl));
        sequence = packet.seq;
        head = ap (head_of Plain is.packet) first;
        payload = refl;
      }

  brought_cut : (m mtu : ℕ) (is : IsDatagramAt (Pft m mtu) sequence0 packets pair datagram)
      → IsShapeOf (length is.packet) (shape_of (length is.packet) m mtu) → BringsPair (Pft m mtu) sequence0 packets pair datagram
  brought_cut m mtu is shaped =
      let shape : Shape = shape_of (length is.packet) m mtu in
      let sequence : ℕ = sequence_at sequence0 pair.0 in
      let parity : List ℕ = is.carries.parity in
      let f : PftFragment = fragment_of_packet shape sequence is.packet parity pair.1 in
      let read : IsPft f datagram =
      is_read_as_written shape sequence pair.1 is.packet parity datagram shaped (sequence_small sequence0 pair.0) is.within is.carries.spells in
      record {
        packet = is.packet;
        at = is.at;
        within = is.within;
        incoming = fragment_of f;
        is_read = inr (f, read, refl);
        sequence = refl;
        head = read_head shape sequence is.packet parity pair.1;
        payload = (parity, is.carries.is_parity, refl);
      }

pub brought : (carry : Carry) (sequence0 : ℕ) (packets : List (List ℕ)) → AreSent carry sequence0 packets
    → (pair : ℕ × ℕ) (datagram : List ℕ) → IsDatagramAt carry sequence0 packets pair datagram → BringsPair carry sequence0 packets pair datagram
brought Plain sequence0 packets sent pair datagram is =
    brought_whole sequence0 packets pair datagram is (sent.each pair.0 is.packet is.at)
brought (Pft m mtu) sequence0 packets sent pair datagram is =
    brought_cut sequence0 packets pair datagram m mtu is
    (shape_is m mtu (sequence_at sequence0 pair.0) is.packet sent.carried (sent.each pair.0 is.packet is.at))

-- all of a delivery
pub all_brought : (carry : Carry) (sequence0 : ℕ) (packets : List (List ℕ)) → AreSent carry sequence0 packets
    → (pairs : List (ℕ × ℕ)) (datagrams : List (List ℕ)) → AreDelivered carry sequence0 packets pairs datagrams
    → AllZip (BringsPair carry sequence0 packets) pairs datagrams
all_brought carry sequence0 packets sent [] [] are = tt
all_brought carry sequence0 packets sent [] (datagram ∷ datagrams) are = absurd are
all_brought carry sequence0 packets sent (pair ∷ pairs) [] are = absurd are
all_brought carry sequence0 packets sent (pair ∷ pairs) (datagram ∷ datagrams) are =
    (brought carry sequence0 packets sent pair datagram are.0, all_brought carry sequence0 packets sent pairs datagrams are.1)
