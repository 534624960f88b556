-- Fragments at their places.
use Rattle.std.proofs.Common.{ℕ, zero, suc, ◌≡◌, ◌+◌, ◌-◌, ◌*◌, ◌<◌, ◌≤◌, min, Option, None, Some, List, ◌++◌, length, take, drop, sym, subst, ap, ap₂, ◌∙◌, inl, inr, arith, length-drop, length-take}
use Rattle.std.proofs.Math.Nat.{mul-le-mul, mul-le-mul_right}
use Rattle.std.proofs.lemmas.Bool.{cases_lt}
use Rattle.std.proofs.lemmas.List.{drop_at, length-take-le, take-take, drop-take, take-append-le}
use borrow.Rule.Slice.PartMut.{put_mid, post_of}
use Rattle.dcp_pft.specs.declared.shape.Rs.{Rs}
use Rattle.dcp_pft.specs.declared.shape.Shape.{Shape}
use Rattle.dcp_pft.specs.Carrying.{fragment_size}
use Rattle.dcp_pft.specs.Cutting.{IsShapeOf}
use Rattle.dcp_pft.proofs.Fragments.{with_rs}
use Rattle.dcp_pft.proofs.Payloads.{shape_is_taken}
use Rattle.dcp_pft.proofs.Shapes.{HasNone, has_none}

-- what stands before a place stays
still_there : (a n at : ℕ) (old new : List ℕ) → a + n ≤ at → take at new ≡ take at old → take n (drop a new) ≡ take n (drop a old)
still_there a n at old new before same =
    sym (drop-take a n new)
    ∙ (ap (drop a) (sym (take-take (a + n) at new before) ∙ (ap (take (a + n)) same ∙ take-take (a + n) at old before))
    ∙ drop-take a n old)

-- what was written from a place on
pub written_at : (at n size : ℕ) (old part : List ℕ) → at ≤ length old → size ≤ length part → take size (drop at (put_mid at n old part)) ≡ take size part
written_at at n size old part within room =
    ap (take size) (drop_at (take at old) (part ++ post_of at n old) at (length-take-le at old within))
    ∙ take-append-le size part (post_of at n old) room

-- one fragment more, of which each has its place
pub one_more : (P : ℕ → List ℕ → Type 0) (place size : ℕ → ℕ) (i at : ℕ) (old new : List ℕ)
    → ((k : ℕ) → k < i → P k (take (size k) (drop (place k) old)))
    → ((k : ℕ) → k < i → place k + size k ≤ at) → at ≡ place i
    → take at new ≡ take at old → P i (take (size i) (drop at new))
    → (k : ℕ) → k < i + 1 → P k (take (size k) (drop (place k) new))
one_more P place size i at old new done ends is same here k below =
    elim (cases_lt k i) [
      | inl before ↦ subst (P k) (sym (still_there (place k) (size k) at old new (ends k before) same)) (done k before)
      | inr last ↦
          let e : i ≡ k = omega (arith, below, last) in
          subst (λ (j : ℕ). P j (take (size j) (drop (place j) new))) e (subst (λ (m : ℕ). P i (take (size i) (drop m new))) is here)
    ]

-- the sizes of fragments
pub size_coded : (shape : Shape) (rs : Rs) (len i : ℕ) → shape.rs ≡ Some rs → fragment_size shape len i ≡ 16 + shape.piece
size_coded shape rs len i is = ap (λ (o : Option Rs). fragment_size (with_rs shape o) len i) is

pub size_plain : (shape : Shape) (len i : ℕ) → shape.rs ≡ None → fragment_size shape len i ≡ 14 + min shape.piece (len - i * shape.piece)
size_plain shape len i is = ap (λ (o : Option Rs). fragment_size (with_rs shape o) len i) is

pub plain_size : (shape : Shape) (packet payload : List ℕ) (i size : ℕ) → shape.rs ≡ None → size ≡ shape.piece → payload ≡ take size (drop (i * size) packet)
    → 14 + length payload ≡ fragment_size shape (length packet) i
plain_size shape packet payload i size none is is_payload =
    ap (λ (n : ℕ). 14 + n)
    (ap length is_payload
    ∙ (length-take size (drop (i * size) packet)
    ∙ (ap (min size) (length-drop (i * size) packet) ∙ ap (λ (n : ℕ). min n (length packet - i * n)) is)))
    ∙ sym (size_plain shape (length packet) i none)

-- without a code the first is as long as any, unless it is the only one
pub place_plain : (shape : Shape) (len i : ℕ) → IsShapeOf len shape → shape.rs ≡ None → i < shape.count
    → i * (14 + shape.piece) ≡ i * fragment_size shape len 0
place_plain shape len zero is none within = let e : 0 * (14 + shape.piece) ≡ 0 * fragment_size shape len 0 = omega arith in e
place_plain shape len (suc j) is none within =
    let here : HasNone len shape = has_none len shape is none in
    let most : 1 * shape.piece ≤ (shape.count - 1) * shape.piece = mul-le-mul_right shape.piece (omega (arith, within)) in
    let size : fragment_size shape len 0 ≡ 14 + shape.piece = omega (arith, size_plain shape len 0 none, most, here.last) in
    ap (λ (n : ℕ). suc j * n) (sym size)

pub plain_most : (shape : Shape) (len i : ℕ) → shape.rs ≡ None → fragment_size shape len i ≤ 14 + shape.piece
plain_most shape len i none = omega (arith, size_plain shape len i none)

-- a fragment ends where the next one begins, or before
pub plain_ends : (shape : Shape) (len i k : ℕ) → shape.rs ≡ None → k < i → k * fragment_size shape len 0 + fragment_size shape len k ≤ i * (14 + shape.piece)
plain_ends shape len i k none before =
    let longest : ℕ = 14 + shape.piece in
    let place : k * fragment_size shape len 0 ≤ k * longest = mul-le-mul (let e : k ≤ k = omega arith in e) (plain_most shape len 0 none) in
    let end : (k + 1) * longest ≤ i * longest = mul-le-mul_right longest (omega (arith, before)) in
    omega (arith, place, end, plain_most shape len k none)

pub coded_ends : (size i k : ℕ) → k < i → k * size + size ≤ i * size
coded_ends size i k before = let end : (k + 1) * size ≤ i * size = mul-le-mul_right size (omega (arith, before)) in omega (arith, end)

-- where the last one ends
pub end_coded : (shape : Shape) (rs : Rs) (len : ℕ) → IsShapeOf len shape → shape.rs ≡ Some rs
    → shape.count * (16 + shape.piece) ≡ (shape.count - 1) * fragment_size shape len 0 + fragment_size shape len (shape.count - 1)
end_coded shape rs len is has =
    let some : 0 < shape.count = (shape_is_taken len shape is).some in
    by shape.count some
    ∙ sym (ap₂ (λ (p q : ℕ). (shape.count - 1) * p + q) (size_coded shape rs len 0 has) (size_coded shape rs len (shape.count - 1) has))
  where
    by : (count : ℕ) → 0 < count → count * (16 + shape.piece) ≡ (count - 1) * (16 + shape.piece) + (16 + shape.piece)
    by zero none = absurd (omega (arith, none))
    by (suc n) more = let e : suc n - 1 ≡ n = omega arith in sym (ap (λ (m : ℕ). m * (16 + shape.piece) + (16 + shape.piece)) e ∙ omega arith)

pub end_plain : (shape : Shape) (len : ℕ) → IsShapeOf len shape → shape.rs ≡ None
    → 14 * shape.count + len ≡ (shape.count - 1) * fragment_size shape len 0 + fragment_size shape len (shape.count - 1)
end_plain shape len is none =
    let some : 0 < shape.count = (shape_is_taken len shape is).some in
    let here : HasNone len shape = has_none len shape is none in
    let n : ℕ = shape.count - 1 in
    let place : n * (14 + shape.piece) ≡ n * fragment_size shape len 0 = place_plain shape len n is none (omega (arith, some)) in
    let one : shape.count ≡ n + 1 = omega (arith, some) in
    let all : shape.count * shape.piece ≡ n * shape.piece + shape.piece = ap (λ (m : ℕ). m * shape.piece) one ∙ omega arith in
    omega (arith, place, one, all, here.last, here.holds, size_plain shape len n none)
