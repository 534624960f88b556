-- The multiplex frame of the streams in a payload is that of the streams that were written.
use Rattle.std.proofs.Common.{◌≡◌, ◌-◌, ◌<◌, ℕ, zero, suc, List, [], ◌∷◌, ◌++◌, length, take, drop, replicate, slice_index, slice_index_or, refl, sym, ap, ◌∙◌, arith}
use Rattle.drm_bits.specs.Description.{IsDescription}
use Rattle.drm_bits.specs.declared.description.Part.{Part}
use Rattle.drm_bits.specs.declared.description.MuxDesc.{MuxDesc}
use Rattle.drm_mux.specs.Frame.{parts_a, parts_b, multiplex_frame, pieces}

abbrev no_part : Part
no_part = record { a = 0; b = 0 }

-- a list of streams begins with those of another one
abbrev BeginsSo : List (List ℕ) → List (List ℕ) → Type 0
BeginsSo xs ys = (k : ℕ) → k < length ys → slice_index_or xs k [] ≡ slice_index_or ys k []

nothing_a : (m : ℕ) (xs : List (List ℕ)) → parts_a (replicate m no_part) xs ≡ []
nothing_a zero xs = refl
nothing_a (suc m) [] = refl
nothing_a (suc m) (x ∷ xs) = nothing_a m xs

nothing_b : (m : ℕ) (xs : List (List ℕ)) → parts_b (replicate m no_part) xs ≡ []
nothing_b zero xs = refl
nothing_b (suc m) [] = refl
nothing_b (suc m) (x ∷ xs) = nothing_b m xs

same_a : (parts : List Part) (xs ys : List (List ℕ)) (m : ℕ) → length xs ≡ length parts → drop (length ys) parts ≡ replicate m no_part → BeginsSo xs ys → parts_a parts xs ≡ parts_a parts ys
same_a [] xs ys m size rest same = refl
same_a (p ∷ parts) [] ys m size rest same = absurd (omega (arith, size))
same_a (p ∷ parts) (x ∷ xs) [] m size rest same = ap (λ (ps : List Part). parts_a ps (x ∷ xs)) rest ∙ nothing_a m (x ∷ xs)
same_a (p ∷ parts) (x ∷ xs) (y ∷ ys) m size rest same =
    let first : x ≡ y = same 0 (omega arith) in
    ap (λ (l : List ℕ). take p.a l ++ parts_a parts xs) first
    ∙ ap (λ (l : List ℕ). take p.a y ++ l) (same_a parts xs ys m (omega (arith, size)) rest (λ k lt. same (suc k) (omega (arith, lt))))

same_b : (parts : List Part) (xs ys : List (List ℕ)) (m : ℕ) → length xs ≡ length parts → drop (length ys) parts ≡ replicate m no_part → BeginsSo xs ys → parts_b parts xs ≡ parts_b parts ys
same_b [] xs ys m size rest same = refl
same_b (p ∷ parts) [] ys m size rest same = absurd (omega (arith, size))
same_b (p ∷ parts) (x ∷ xs) [] m size rest same = ap (λ (ps : List Part). parts_b ps (x ∷ xs)) rest ∙ nothing_b m (x ∷ xs)
same_b (p ∷ parts) (x ∷ xs) (y ∷ ys) m size rest same =
    let first : x ≡ y = same 0 (omega arith) in
    ap (λ (l : List ℕ). take p.b (drop p.a l) ++ parts_b parts xs) first
    ∙ ap (λ (l : List ℕ). take p.b (drop p.a y) ++ l) (same_b parts xs ys m (omega (arith, size)) rest (λ k lt. same (suc k) (omega (arith, lt))))

-- what stands past the described streams makes nothing
pub same_multiplex : (d : MuxDesc) (xs ys : List (List ℕ)) → IsDescription d → length xs ≡ 4 → length ys ≡ d.count → ((k : ℕ) → k < d.count → slice_index_or xs k [] ≡ slice_index_or ys k []) → multiplex_frame d xs ≡ multiplex_frame d ys
same_multiplex d xs ys is four size same =
    let rest : drop (length ys) d.parts ≡ replicate (4 - d.count) no_part = rw size is.rest in
    let begins : BeginsSo xs ys = λ k lt. same k (omega (arith, size, lt)) in
    let long : length xs ≡ length d.parts = four ∙ sym is.size in
    ap (λ (l : List ℕ). l ++ parts_b d.parts xs) (same_a d.parts xs ys (4 - d.count) long rest begins)
    ∙ ap (λ (l : List ℕ). parts_a d.parts ys ++ l) (same_b d.parts xs ys (4 - d.count) long rest begins)

pub length-pieces : (buffer places lens : List ℕ) → length places ≡ length lens → length (pieces buffer places lens) ≡ length places
length-pieces buffer [] lens same = refl
length-pieces buffer (at ∷ places) [] same = absurd (omega (arith, same))
length-pieces buffer (at ∷ places) (len ∷ lens) same = omega (arith, length-pieces buffer places lens (omega (arith, same)))

pub piece_at : (buffer places lens : List ℕ) (k : ℕ) → k < length places → k < length lens → slice_index_or (pieces buffer places lens) k [] ≡ take (slice_index lens k) (drop (slice_index places k) buffer)
piece_at buffer [] lens k there long = absurd (omega (arith, there))
piece_at buffer (at ∷ places) [] k there long = absurd (omega (arith, long))
piece_at buffer (at ∷ places) (len ∷ lens) zero there long = refl
piece_at buffer (at ∷ places) (len ∷ lens) (suc k) there long = piece_at buffer places lens k (omega (arith, there)) (omega (arith, long))
