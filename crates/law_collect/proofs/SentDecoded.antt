-- Fragments of a packet that suffice give the packet.
use Rattle.std.proofs.Common.{ℕ, ◌≡◌, ◌+◌, ◌*◌, ◌/◌, ◌<◌, ◌≤◌, Bool, true, false, Option, Some, None, List, [], ◌∷◌, length, replicate, refl, sym, ap, ◌∙◌, subst, arith, length-append}
use Rattle.std.specs.List.{AllByRecursion}
use Rattle.std.proofs.Math.Nat.{div-mul-le_self}
use Rattle.std.proofs.lemmas.List.{length-replicate, append-nil}
use Rattle.dcp_pft.specs.declared.shape.Rs.{Rs}
use Rattle.dcp_pft.specs.declared.shape.Shape.{Shape}
use Rattle.dcp_pft.specs.Cutting.{IsShapeOf}
use Rattle.dcp_pft.specs.Coding.{IsParityOf, filled, coded, every, payload_of, byte_or_zero}
use Rattle.dcp_pft.specs.Loss.{has_all, is_recoverable}
use Rattle.dcp_pft.proofs.Shapes.{HasCode, has_code, has_none}
use Rattle.dcp_pft.proofs.Fragments.{with_rs, chunks_by, chunks_with, parities_with}
use Rattle.dcp_pft.proofs.OneFragment.{HasShortChunks, one_parity_of}
use Rattle.dcp_collect.specs.declared.head.Head.{Head}
use Rattle.dcp_collect.specs.Fragments.{NumberedFragment, has_index, shape_by, suffice}
use Rattle.dcp_collect.proofs.Ascending.{IsAscending}
use Rattle.dcp_collect.specs.Decoding.{IsDecoded, HasItsBytes, joined}
use Rattle.dcp_pft.specs.declared.carry.Carry.TheVariants.{Plain}
use Rattle.law_collect.proofs.Sent.{IsOf}
use Rattle.dcp_collect.proofs.Lists.{all_weaker}
use Rattle.law_collect.proofs.Heads.{cut_head, cut_same_shape}
use Rattle.law_collect.proofs.PlainPieces.{IsPiece, all_pieces}
use Rattle.law_collect.proofs.CodedChunks.{coded_long, byte_at_place, unfilled}

-- a fragment of a packet that is cut in this shape
abbrev pub IsPart : Shape → List ℕ → NumberedFragment → Type 0
IsPart shape packet f =
    (f.head.index < shape.count)
    × (f.head ≡ cut_head shape (length packet) f.head.index)
    × ((parity : List ℕ) × IsParityOf shape packet parity × (f.payload ≡ payload_of shape packet parity f.head.index))

-- the fragment with another head
abbrev headed : NumberedFragment → Head → NumberedFragment
headed f head = record { number = f.number; head = head; payload = f.payload }

-- its head, with the code told beside it
part_head : (shape : Shape) (o : Option Rs) (packet : List ℕ) (f : NumberedFragment) → shape.rs ≡ o → IsPart shape packet f
    → f.head ≡ cut_head (with_rs shape o) (length packet) f.head.index
part_head shape o packet f is part = subst (λ (o : Option Rs). f.head ≡ cut_head (with_rs shape o) (length packet) f.head.index) is part.1

-- the first one tells whether they suffice
sufficient : (shape : Shape) (packet : List ℕ) (f : NumberedFragment) (fs : List NumberedFragment) → IsPart shape packet f → suffice (f ∷ fs) ≡ true
    → is_recoverable shape (has_index (f ∷ fs)) ≡ true
sufficient shape packet f fs part enough =
    sym (cut_same_shape shape (length packet) f.head.index (has_index (f ∷ fs)))
    ∙ (ap (λ (h : Head). is_recoverable (shape_by h) (has_index (f ∷ fs))) (sym part.1) ∙ enough)

-- without a code all are needed
all_needed : (shape : Shape) (kept : ℕ → Bool) → shape.rs ≡ None → is_recoverable shape kept ≡ true → has_all shape.count kept ≡ true
unfolding is_recoverable
all_needed shape kept none enough = subst (λ (o : Option Rs). is_recoverable (with_rs shape o) kept ≡ true) none enough

piece_of : (shape : Shape) (packet : List ℕ) → shape.rs ≡ None → (f : NumberedFragment) → IsPart shape packet f → IsPiece shape.count shape.piece packet f
piece_of shape packet none f part =
    (part.0, part.2.2 ∙ ap (λ (o : Option Rs). payload_of (with_rs shape o) packet part.2.0 f.head.index) none)

plain_decoded : (shape : Shape) (packet : List ℕ) → IsShapeOf (length packet) shape → shape.rs ≡ None
    → (fs : List NumberedFragment) → AllByRecursion (IsPart shape packet) fs → IsAscending fs → suffice fs ≡ true → IsDecoded fs packet
plain_decoded shape packet is none [] parts rise enough = absurd (let e : false ≡ true = enough in cc)
plain_decoded shape packet is none (f ∷ fs) parts rise enough =
    let all = all_needed shape (has_index (f ∷ fs)) none (sufficient shape packet f fs parts.0 enough) in
    let pieces = all_weaker (IsPart shape packet) (IsPiece shape.count shape.piece packet) (piece_of shape packet none) (f ∷ fs) parts in
    let are : packet ≡ joined (f ∷ fs) = all_pieces shape.count shape.piece packet (has_none (length packet) shape is none).holds (f ∷ fs) pieces rise all in
    let P : Head → Type 0 = λ h. IsDecoded (headed f h ∷ fs) packet in
    subst P (sym (part_head shape None packet f none parts.0)) are

module _ (shape : Shape) (rs : Rs) (packet : List ℕ) (is : IsShapeOf (length packet) shape) (has : shape.rs ≡ Some rs) where
  here : HasCode (length packet) shape rs
  here = has_code (length packet) shape rs is has

  short : HasShortChunks shape
  short other e = (has_code (length packet) shape other is e).size

  whole : chunks_by shape rs * rs.k ≡ length packet + rs.z
  whole = ap (λ (n : ℕ). n * rs.k) (sym (chunks_with shape rs has)) ∙ here.whole

  -- every one has its bytes of the same chunks
  has_bytes : (parity : List ℕ) → IsParityOf shape packet parity → (f : NumberedFragment) → IsPart shape packet f
      → HasItsBytes shape.count (coded (chunks_by shape rs) rs.k (filled rs packet) parity) f
  has_bytes parity is_parity f part place below residue =
      let bytes : List ℕ = coded (chunks_by shape rs) rs.k (filled rs packet) parity in
      let same : part.2.0 ≡ parity = one_parity_of shape packet parity part.2.0 short is_parity part.2.1 in
      let payload : f.payload ≡ every shape.count f.head.index shape.piece bytes =
      part.2.2
      ∙ (ap (λ (p : List ℕ). payload_of shape packet p f.head.index) same
      ∙ ap (λ (o : Option Rs). payload_of (with_rs shape o) packet parity f.head.index) has) in
      let fits : chunks_by shape rs * (rs.k + 48) ≤ shape.count * shape.piece = div-mul-le_self (shape.count * shape.piece) (rs.k + 48) in
      let small : length bytes ≤ shape.count * shape.piece = omega (arith, coded_long (chunks_by shape rs) rs.k (filled rs packet) parity) in
      byte_at_place shape.count f.head.index shape.piece place bytes small below residue
      ∙ ap (λ (l : List ℕ). byte_or_zero l (place / shape.count)) (sym payload)

  coded_decoded : (fs : List NumberedFragment) → AllByRecursion (IsPart shape packet) fs → IsAscending fs → suffice fs ≡ true → IsDecoded fs packet
  coded_decoded [] parts rise enough = absurd (let e : false ≡ true = enough in cc)
  coded_decoded (f ∷ fs) parts rise enough =
      let parity : List ℕ = parts.0.2.0 in
      let bytes : List ℕ = coded (chunks_by shape rs) rs.k (filled rs packet) parity in
      let P : Head → Type 0 = λ h. IsDecoded (headed f h ∷ fs) packet in
      subst P (sym (part_head shape (Some rs) packet f has parts.0)) (record {
        few = here.size;
        chunks = filled rs packet;
        parities = parity;
        long = omega (arith, length-append packet (replicate rs.z 0), length-replicate {A = ℕ} rs.z 0, whole);
        code_words = parities_with shape rs packet parity has parts.0.2.1;
        agrees = all_weaker (IsPart shape packet) (HasItsBytes shape.count bytes) (has_bytes parity parts.0.2.1) (f ∷ fs) parts;
        are = unfilled (chunks_by shape rs * rs.k) rs.z packet whole;
      })

-- whether there is a code or not
decoded_by : (shape : Shape) (o : Option Rs) (packet : List ℕ) → IsShapeOf (length packet) shape → shape.rs ≡ o
    → (fs : List NumberedFragment) → AllByRecursion (IsPart shape packet) fs → IsAscending fs → suffice fs ≡ true → IsDecoded fs packet
decoded_by shape None packet is none = plain_decoded shape packet is none
decoded_by shape (Some rs) packet is has = coded_decoded shape rs packet is has

pub cut_decoded : (shape : Shape) (packet : List ℕ) → IsShapeOf (length packet) shape
    → (fs : List NumberedFragment) → AllByRecursion (IsPart shape packet) fs → IsAscending fs → suffice fs ≡ true → IsDecoded fs packet
cut_decoded shape packet is = decoded_by shape shape.rs packet is refl

-- a packet that was not cut
pub whole_decoded : (packet : List ℕ) (fs : List NumberedFragment) → AllByRecursion (IsOf Plain packet) fs → IsAscending fs → suffice fs ≡ true → IsDecoded fs packet
whole_decoded packet [] are rise enough = absurd (let e : false ≡ true = enough in cc)
whole_decoded packet (f ∷ []) are rise enough =
    let P : Head → Type 0 = λ h. IsDecoded (headed f h ∷ []) packet in
    subst P (sym are.0.1) (sym (append-nil f.payload ∙ are.0.2))
whole_decoded packet (f ∷ g ∷ fs) are rise enough = absurd (omega (arith, rise.0.0, are.1.0.0))
