-- The fields of a row, within a table.
use Rattle.std.proofs.Common.{◌≡◌, ℕ, ◌≤◌, ◌<◌, zero, suc, true, false, List, [], ◌∷◌, ◌++◌, length, take, drop, get_or, refl, ap, arith}
use Rattle.plan_rows.specs.declared.field.LineField.{LineField}
use Rattle.plan_rows.specs.Tables.{begins, front}

-- the fields in front, where no line begins in these
pub front_more : (cells : List LineField) (i : ℕ) (d : LineField) → i < length cells → begins (get_or cells i d) ≡ false → take (suc i) cells ++ front (drop (suc i) cells) ≡ take i cells ++ front (drop i cells)
front_more [] i d lt other = absurd (omega arith)
front_more (f ∷ cells) zero d lt other = rw other refl
front_more (f ∷ cells) (suc i) d lt other = ap (λ (fs : List LineField). f ∷ fs) (front_more cells i d (omega (arith, lt)) other)

pub front_ends : (cells : List LineField) (i : ℕ) (d : LineField) → i < length cells → begins (get_or cells i d) ≡ true → take i cells ++ front (drop i cells) ≡ take i cells
front_ends [] i d lt first = absurd (omega arith)
front_ends (f ∷ cells) zero d lt first = rw first refl
front_ends (f ∷ cells) (suc i) d lt first = ap (λ (fs : List LineField). f ∷ fs) (front_ends cells i d (omega (arith, lt)) first)

pub front_whole : (cells : List LineField) (i : ℕ) → length cells ≤ i → take i cells ++ front (drop i cells) ≡ cells
front_whole [] zero le = refl
front_whole [] (suc i) le = refl
front_whole (f ∷ cells) zero le = absurd (omega (arith, le))
front_whole (f ∷ cells) (suc i) le = ap (λ (fs : List LineField). f ∷ fs) (front_whole cells i (omega (arith, le)))
