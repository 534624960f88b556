-- The equations for each value times its locator, whose sums begin at the power 0.
use Rattle.std.specs.Prelude.{ℕ, ◌≡◌, ◌<◌, List, [], ◌∷◌, length, take, slice_index}
use Rattle.gf_field.specs.Field.{times}
use Rattle.rs_erase.specs.Code.{AreElements}
use Rattle.rs_erase.specs.Equations.{SumsFrom, remaining_syndromes}

-- each value times its locator
abbrev pub weighted : List ℕ → List ℕ → List ℕ
weighted [] vs = []
weighted (x ∷ xs) [] = []
weighted (x ∷ xs) (v ∷ vs) = times v x ∷ weighted xs vs

-- products at the places with the locators xs, from which the syndromes s come
pub record SolvesFromZero (xs vs s : List ℕ) : Type 0 where
  pub one_each : length vs ≡ length xs
  pub elements : AreElements vs
  pub sums : SumsFrom 0 xs vs s

-- what remains of the syndromes without the places with these locators
abbrev pub syndromes_without : List ℕ → List ℕ → List ℕ
syndromes_without [] s = s
syndromes_without (x ∷ xs) s = syndromes_without xs (remaining_syndromes x s)

-- for each place, the first of the syndromes that remain without the places before it
abbrev pub AreFirstSyndromes : List ℕ → List ℕ → List ℕ → Type 0
AreFirstSyndromes xs s firsts =
    (k : ℕ) → k < length xs → slice_index firsts k ≡ slice_index (syndromes_without (take k xs) s) 0
