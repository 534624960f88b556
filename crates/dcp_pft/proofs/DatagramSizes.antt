-- How many bytes a datagram has.
use Rattle.std.proofs.Common.{ℕ, ◌≡◌, ◌+◌, ◌-◌, ◌*◌, min, Option, None, Some, List, ◌++◌, length, refl, ap, arith}
use Rattle.std.specs.Int.{w16, to_be_bytes}
use Rattle.std.proofs.lemmas.List.{length-append}
use Rattle.dcp_pft.specs.declared.carry.Carry.TheVariants.{Plain, Pft}
use Rattle.dcp_pft.specs.declared.shape.Rs.{Rs}
use Rattle.dcp_pft.specs.declared.shape.Shape.{Shape}
use Rattle.dcp_pft.specs.Coding.{payload_of}
use Rattle.dcp_pft.specs.Cutting.{shape_of}
use Rattle.dcp_pft.specs.Head.{IsFragmentOf, PftFragment, fragment_of, head, rs_bytes, addr_bytes}
use Rattle.dcp_pft.proofs.Fragments.{with_rs}
use Rattle.dcp_pft.proofs.Payloads.{coded_payload_length, plain_payload_length}
use Rattle.dcp_pft.specs.Carrying.{fragment_size}
use Rattle.dcp_pft.specs.Laws.{DatagramsHaveTheirSize}

length-head : (f : PftFragment) → length (head f) ≡ 12 + length (rs_bytes f.rs) + length (addr_bytes f.addr)
length-head f = omega (arith, length-append (rs_bytes f.rs) (addr_bytes f.addr))

-- the header, its check value, and what the fragment carries
length-spelled : (shape : Shape) (seq i check : ℕ) (packet parity bytes : List ℕ) → bytes ≡ head (fragment_of shape seq packet parity i) ++ to_be_bytes w16 check ++ payload_of shape packet parity i
    → length bytes ≡ 14 + length (rs_bytes shape.rs) + length (payload_of shape packet parity i)
length-spelled shape seq i check packet parity bytes is =
    let f : PftFragment = fragment_of shape seq packet parity i in
    let all : length bytes ≡ length (head f ++ to_be_bytes w16 check ++ payload_of shape packet parity i) = ap (λ (b : List ℕ). length b) is in
    omega (arith, all, length-append (head f ++ to_be_bytes w16 check) (payload_of shape packet parity i), length-append (head f) (to_be_bytes w16 check), length-head f)

fragment_length : (shape : Shape) (seq i : ℕ) (packet bytes : List ℕ) → IsFragmentOf shape seq packet i bytes → length bytes ≡ fragment_size shape (length packet) i
fragment_length shape seq i packet bytes is = by shape.rs refl (length-spelled shape seq i is.spells.check packet is.parity bytes is.spells.spelled)
  where
    by : (o : Option Rs) → shape.rs ≡ o → length bytes ≡ 14 + length (rs_bytes shape.rs) + length (payload_of shape packet is.parity i) → length bytes ≡ fragment_size shape (length packet) i
    by None none all =
        let head : length (rs_bytes shape.rs) ≡ 0 = ap (λ (o : Option Rs). length (rs_bytes o)) none in
        let size : fragment_size shape (length packet) i ≡ 14 + min shape.piece (length packet - i * shape.piece) = ap (λ (o : Option Rs). fragment_size (with_rs shape o) (length packet) i) none in
        omega (arith, all, head, size, plain_payload_length shape packet is.parity i none)
    by (Some rs) some all =
        let head : length (rs_bytes shape.rs) ≡ 2 = ap (λ (o : Option Rs). length (rs_bytes o)) some in
        let size : fragment_size shape (length packet) i ≡ 16 + shape.piece = ap (λ (o : Option Rs). fragment_size (with_rs shape o) (length packet) i) some in
        omega (arith, all, head, size, coded_payload_length shape rs packet is.parity i some)

pub sizes : DatagramsHaveTheirSize
sizes Plain seq i packet datagram is = ap (λ (l : List ℕ). length l) is
sizes (Pft m mtu) seq i packet datagram is = fragment_length (shape_of (length packet) m mtu) seq i packet datagram is
