-- What is found of syndromes: of sums, of a single symbol, and that it solves the equations.
use Rattle.std.proofs.Common.{◌≡◌, ℕ, suc, zero, ◌-◌, ◌<◌, ◌≤◌, List, [], ◌∷◌, length, get_or, refl, sym, ap, ◌∙◌, arith, bit_xor}
use Rattle.gf_field.specs.Field.{times}
use Rattle.gf_field.proofs.Times.{times-lt, times_one}
use Rattle.rs_erase.specs.Equations.{nth_power}
use Rattle.rs_erase.specs.FromZero.{syndromes_without}
use Rattle.rs_erase.specs.Polynomial.{add, scale}
use Rattle.rs_erase.specs.Prepared.{geometric, sums_product, without}
use Rattle.rs_erase.proofs.OtherPlaces.{geometric_at, geometric_without, length_left, length_others, sum_without}

pub added_at : (f : ℕ) (a c : List ℕ) (j : ℕ) → j < length a → length c ≡ length a
    → get_or (add a (scale f c)) j 0 ≡ bit_xor (get_or a j 0) (times f (get_or c j 0))
added_at f [] c j lt e = absurd (omega arith)
added_at f (x ∷ a) [] j lt e = absurd (omega arith)
added_at f (x ∷ a) (y ∷ c) zero lt e = refl
added_at f (x ∷ a) (y ∷ c) (suc j) lt e = added_at f a c j (omega arith) (omega arith)

-- ---- sums

-- what is left of sums
pub left_of_sum : (zs s t : List ℕ) (f i : ℕ) → length s ≡ 48 → length t ≡ 48 → i < 48 - length zs
    → get_or (syndromes_without zs (add s (scale f t))) i 0 ≡ bit_xor (get_or (syndromes_without zs s) i 0) (times f (get_or (syndromes_without zs t) i 0))
left_of_sum zs s t f i ls lt li =
    let a = length_left zs s in
    let b = length_left zs t in
    ap (λ (us : List ℕ). get_or us i 0) (sum_without zs s t f (ls ∙ sym lt))
    ∙ added_at f (syndromes_without zs s) (syndromes_without zs t) i (omega arith) (omega arith)

-- ---- a single symbol

pub left_of_symbol : (zs : List ℕ) (y i : ℕ) → y < 256 → length zs ≤ 48 → i < 48 - length zs
    → get_or (syndromes_without zs (geometric y y 48)) i 0 ≡ times (times y (sums_product y zs)) (nth_power y i)
left_of_symbol zs y i ly le lt =
    ap (λ (us : List ℕ). get_or us i 0) (geometric_without zs y y 48 ly le)
    ∙ geometric_at (times y (sums_product y zs)) y (48 - length zs) i (times-lt y (sums_product y zs)) lt

pub first_of_symbol : (xs : List ℕ) (y j : ℕ) → y < 256 → length xs ≤ 48 → j < length xs
    → get_or (syndromes_without (without j xs) (geometric y y 48)) 0 0 ≡ times y (sums_product y (without j xs))
first_of_symbol xs y j ly le lt =
    let l = length_others j xs lt in
    let c = times y (sums_product y (without j xs)) in
    left_of_symbol (without j xs) y 0 ly (omega arith) (omega arith) ∙ times_one c (times-lt y (sums_product y (without j xs)))

-- ---- the equations
