-- The names are different ones.
use Rattle.std.proofs.Common.{◌≡◌, ℕ, zero, suc, ◌+◌, ◌<◌, Bool, true, false, nat_eq, List, [], ◌∷◌, length, get_or, refl, ap, ◌∙◌, arith}
use Rattle.std.specs.List.{position_or_len}
use Rattle.std.specs.Cmp.Lexicographic.{pointwise, same_text}
use Rattle.mdi_items.specs.Names.{names, name_at}

-- the place of a name
rank : List ℕ → ℕ
rank name = position_or_len (pointwise nat_eq name) names

-- each name of a list has its rank, where the first one has this
AreRanked : ℕ → List (List ℕ) → Type 0
AreRanked from [] = Unit {0}
AreRanked from (name ∷ more) = (rank name ≡ from) × AreRanked (suc from) more

ranked : AreRanked 0 names
unfolding AreRanked rank
ranked = (refl, (refl, (refl, (refl, (refl, (refl, (refl, (refl, (refl, (refl, tt))))))))))

rank-at : (from : ℕ) (all : List (List ℕ)) (k : ℕ) → AreRanked from all → k < length all → rank (get_or all k []) ≡ from + k
unfolding AreRanked
rank-at from [] k ranks lt = absurd (omega arith)
rank-at from (name ∷ more) zero ranks lt = ranks.0 ∙ omega arith
rank-at from (name ∷ more) (suc k) ranks lt = rank-at (suc from) more k ranks.1 (omega arith) ∙ omega arith

-- two places have two names
pub one_place : (i k : ℕ) → i < 10 → k < 10 → name_at i ≡ name_at k → i ≡ k
one_place i k below below_too same =
    let first : rank (name_at i) ≡ 0 + i = rank-at 0 names i ranked below in
    let second : rank (name_at k) ≡ 0 + k = rank-at 0 names k ranked below_too in
    omega (arith, first, second, ap rank same)

tells_by : (xs ys : List ℕ) (b : Bool) → b ≡ pointwise nat_eq xs ys → (xs ≡ ys → ⊥) → b ≡ false
tells_by xs ys true is differ = absurd (differ (same_text xs ys is))
tells_by xs ys false is differ = refl

-- the test of two names that differ
pub other_name : (xs ys : List ℕ) → (xs ≡ ys → ⊥) → pointwise nat_eq xs ys ≡ false
other_name xs ys differ = tells_by xs ys (pointwise nat_eq xs ys) refl differ
