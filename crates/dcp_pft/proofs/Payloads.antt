-- How many bytes a fragment carries, and that a fragment that was written is read.
use Rattle.std.proofs.Common.{ℕ, ◌≡◌, ◌+◌, ◌-◌, ◌*◌, ◌/◌, ◌<◌, ◌≤◌, inl, inr, min, Option, None, Some, List, length, drop, refl, sym, subst, ap, ◌∙◌, arith, length-drop, length-take}
use Rattle.std.proofs.Math.Nat.{div-eq_of_lt, mul-le-mul_left, mul-le-mul_right}
use Rattle.std.proofs.lemmas.Bool.{cases_lt}
use Rattle.std.proofs.lemmas.List.FromFn.{length-map-range_with_len}
use Rattle.std.specs.Option.{IfSome}
use Rattle.dcp_pft.specs.declared.shape.Rs.{Rs}
use Rattle.dcp_pft.specs.declared.shape.Shape.{Shape}
use Rattle.dcp_pft.specs.Limits.{most_fragment}
use Rattle.dcp_pft.specs.Cutting.{chunks_of, IsShapeOf}
use Rattle.dcp_pft.specs.Coding.{byte_or_zero, coded, filled, payload_of}
use Rattle.dcp_pft.specs.Laws.{IsCodeTaken, IsTaken, NoneIsEmpty, ReadAsWritten}
use Rattle.dcp_pft.specs.Reading.{IsCodeFor}
use Rattle.dcp_pft.proofs.Fragments.{chunks_by, chunks_with, with_rs}
use Rattle.dcp_pft.proofs.Shapes.{all_are_taken, has_code, has_none}

-- with a code each fragment carries a whole piece
pub coded_payload_length : (shape : Shape) (rs : Rs) (packet parity : List ℕ) (i : ℕ) → shape.rs ≡ Some rs
    → length (payload_of shape packet parity i) ≡ shape.piece
coded_payload_length shape rs packet parity i is =
    let bytes : List ℕ = coded (chunks_by shape rs) rs.k (filled rs packet) parity in
    ap (λ (o : Option Rs). length (payload_of (with_rs shape o) packet parity i)) is
    ∙ length-map-range_with_len (λ (j : ℕ). byte_or_zero bytes (j * shape.count + i)) 0 shape.piece

-- without one, what its piece has of the packet
pub plain_payload_length : (shape : Shape) (packet parity : List ℕ) (i : ℕ) → shape.rs ≡ None
    → length (payload_of shape packet parity i) ≡ min shape.piece (length packet - i * shape.piece)
plain_payload_length shape packet parity i is =
    ap (λ (o : Option Rs). length (payload_of (with_rs shape o) packet parity i)) is
    ∙ (length-take shape.piece (drop (i * shape.piece) packet) ∙ ap (min shape.piece) (length-drop (i * shape.piece) packet))

-- in any case no more than a piece
pub payload_most : (shape : Shape) (packet parity : List ℕ) (i : ℕ) → length (payload_of shape packet parity i) ≤ shape.piece
payload_most shape packet parity i = by shape.rs refl
  where
    by : (o : Option Rs) → shape.rs ≡ o → length (payload_of shape packet parity i) ≤ shape.piece
    by None is = omega (arith, plain_payload_length shape packet parity i is)
    by (Some rs) is = omega (arith, coded_payload_length shape rs packet parity i is)

-- a reader takes the shape of a packet
pub shape_is_taken : (len : ℕ) (shape : Shape) → IsShapeOf len shape → IsTaken shape
shape_is_taken len shape is =
    subst IsTaken (sym is.is) (all_are_taken len is.m is.mtu is.some is.small is.few is.least is.most)

-- so many bytes have a chunk
has_chunk : (size n : ℕ) → 0 < size / n → n ≤ size
has_chunk size n some =
    elim (cases_lt size n) [
      | inl less ↦ let none : size / n ≡ 0 = div-eq_of_lt less in absurd (omega arith)
      | inr enough ↦ enough
    ]

-- the code of the shape is one that is read
code_is_read : (shape : Shape) (packet parity : List ℕ) (i : ℕ) → IsTaken shape
    → IfSome shape.rs (λ rs. IsCodeFor (shape.count * length (payload_of shape packet parity i)) rs)
code_is_read shape packet parity i taken = by shape.rs refl
  where
    by : (o : Option Rs) → shape.rs ≡ o → IfSome o (λ rs. IsCodeFor (shape.count * length (payload_of shape packet parity i)) rs)
    by None is = tt
    by (Some rs) is =
        let code : IsCodeTaken rs (chunks_of shape) = taken.code rs is in
        let some : 0 < shape.count * shape.piece / (rs.k + 48) = omega (arith, code.chunk, chunks_with shape rs is) in
        let enough : rs.k + 48 ≤ shape.count * shape.piece = has_chunk (shape.count * shape.piece) (rs.k + 48) some in
        let P : ℕ → Type 0 = λ n. IsCodeFor (shape.count * n) rs in
        subst P (sym (coded_payload_length shape rs packet parity i is))
        (record { some = code.some; most = code.few; fill = code.fill; chunk = enough })

-- a piece fits a datagram
short_piece : (len : ℕ) (shape : Shape) → IsShapeOf len shape → shape.piece ≤ most_fragment
short_piece len shape is = by shape.rs refl
  where
    by : (o : Option Rs) → shape.rs ≡ o → shape.piece ≤ most_fragment
    by None none = omega (arith, (has_none len shape is none).piece)
    by (Some rs) some = omega (arith, (has_code len shape rs is some).piece)

-- no fragment is empty
pub none_is_empty : NoneIsEmpty
none_is_empty shape packet parity i is below = by shape.rs refl
  where
    by : (o : Option Rs) → shape.rs ≡ o → 1 ≤ length (payload_of shape packet parity i)
    by (Some rs) some = omega (arith, coded_payload_length shape rs packet parity i some, (has_code (length packet) shape rs is some).byte)
    by None none =
        let has = has_none (length packet) shape is none in
        let before : i * shape.piece ≤ (shape.count - 1) * shape.piece = mul-le-mul_right shape.piece (omega (arith, below)) in
        omega (arith, plain_payload_length shape packet parity i none, has.byte, has.last, before)

pub is_read_as_written : ReadAsWritten
is_read_as_written shape seq i packet parity datagram is small index spells =
    let taken = shape_is_taken (length packet) shape is in
    let most = payload_most shape packet parity i in
    let all : shape.count * length (payload_of shape packet parity i) ≤ shape.count * shape.piece = mul-le-mul_left shape.count most in
    record {
      spells = spells;
      seq = small;
      addr = tt;
      some = omega (arith, taken.some);
      index = index;
      few = taken.few;
      len = omega (arith, most, short_piece (length packet) shape is);
      size = omega (arith, all, taken.bytes);
      code = code_is_read shape packet parity i taken;
    }
