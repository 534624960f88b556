-- What is found of the symbols, one after another.
use Rattle.std.proofs.Common.{◌≡◌, ℕ, suc, ◌+◌, ◌-◌, ◌*◌, ◌<◌, ◌≤◌, List, length, get_or, sym, ap, ◌∙◌, arith}
use Rattle.std.proofs.lemmas.List.{ext_get_or}
use lib.Lanes.{chunk}
use Rattle.gf_field.specs.Field.{power}
use Rattle.gf_field.proofs.Powers.{power-lt}
use Rattle.rs_erase.specs.Code.{AreElements, AreSyndromes}
use Rattle.rs_erase.specs.Equations.{nth_power, word_value}
use Rattle.rs_erase.specs.Prepared.{geometric, syndromes_of_symbol}
use Rattle.rs_erase.specs.declared.root_powers.TheConstants.{ROOT_POWERS}
use Rattle.rs_erase.proofs.OtherPlaces.{geometric_at, length_geometric}
use Rattle.rs_erase.proofs.RootSums.{row_at, row_long}
use Rattle.rs_erase.proofs.WordValues.{nth_power_swap, value-reverse}

-- the table's rows are the syndromes of the symbols
pub table_row : (p : ℕ) → p < 48 → chunk (48 * p) 48 ROOT_POWERS ≡ syndromes_of_symbol p
table_row p lp =
    let y = power (47 - p) in
    let row = chunk (48 * p) 48 ROOT_POWERS in
    let long : length row ≡ 48 = row_long p lp in
    ext_get_or 0 row (geometric y y 48) (long ∙ sym (length_geometric y y 48))
    (λ j lj.
    let next : suc j ≡ j + 1 = omega arith in
    row_at p j lp (omega arith) ∙ nth_power_swap (j + 1) (47 - p) ∙ ap (nth_power y) (sym next)
    ∙ sym (geometric_at y y 48 j (power-lt (47 - p)) (omega arith)))

-- the syndromes of a word are those of what remains of it
pub are_syndromes : (w symbols r s : List ℕ) → AreElements w → symbols ≡ r → length s ≡ 48
    → ((j : ℕ) → j < 48 → get_or s j 0 ≡ word_value (power (j + 1)) symbols)
    → ((j : ℕ) → 0 < j → j ≤ 48 → word_value (power j) r ≡ word_value (power j) w) → AreSyndromes w s
are_syndromes w symbols r s hw e ls each same = record {
  long = ls;
  each = λ k lt. each k lt ∙ ap (word_value (power (k + 1))) e ∙ same (k + 1) (omega arith) (omega arith) ∙ sym (value-reverse (power (k + 1)) w hw);
}
