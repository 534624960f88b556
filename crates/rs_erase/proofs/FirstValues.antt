-- The values at the first sixteen roots, summed symbol by symbol.
use Rattle.std.proofs.Common.{◌≡◌, ℕ, ◌+◌, ◌-◌, ◌*◌, ◌<◌, ◌≤◌, List, length, take, map, replicate, get_or, refl, sym, ap, ap₂, ◌∙◌, arith, bit_xor}
use Rattle.std.proofs.lemmas.List.{get_or-replicate, take_all}
use Rattle.std.proofs.lemmas.Simd.{get_or-chunk, get_or-zip2}
use lib.Lanes.{chunk, zip2}
use Rattle.gf_field.specs.Field.{power, times}
use Rattle.gf_field.proofs.Times.{times_one, zero_times}
use Rattle.rs_erase.specs.Equations.{nth_power, word_value}
use Rattle.rs_erase.specs.declared.root_powers.TheConstants.{ROOT_POWERS}
use Rattle.rs_erase.proofs.RootSums.{row_at}
use Rattle.rs_erase.proofs.SpacedSums.{row_length, row_at as lane_at}
use Rattle.rs_erase.proofs.WordValues.{more_symbols, word_value-lt}

-- the values of the first p symbols with zeros behind them
abbrev pub HasFirst : List ℕ → List ℕ → ℕ → Type 0
HasFirst symbols values p = (j : ℕ) → j < 16 → get_or values j 0 ≡ times (word_value (power (j + 1)) (take p symbols)) (nth_power (power (j + 1)) (48 - p))

pub none_first : (symbols : List ℕ) → HasFirst symbols (replicate 16 0) 0
none_first symbols = λ j lt. get_or-replicate 16 j 0 0 lt ∙ sym (zero_times (nth_power (power (j + 1)) 48))

pub one_first : (symbols values row : List ℕ) (f p : ℕ) → p < 48 → length symbols ≡ 48 → f ≡ get_or symbols p 0 → length values ≡ 16
    → row ≡ map (times f) (chunk (16 * (3 * p)) 16 ROOT_POWERS) → HasFirst symbols values p → HasFirst symbols (zip2 bit_xor values row) (p + 1)
one_first symbols values row f p lt ls hf lv hr h = λ j lj.
    let i = power (j + 1) in
    let room : 16 * (3 * p) + 16 ≤ length ROOT_POWERS = let l : length ROOT_POWERS ≡ 2304 = refl in omega arith in
    let lr = row_length ROOT_POWERS row f (3 * p) room hr in
    let at : get_or ROOT_POWERS (16 * (3 * p) + j) 0 ≡ nth_power i (47 - p) =
    ap (λ (n : ℕ). get_or ROOT_POWERS n 0) (let e : 16 * (3 * p) + j ≡ 48 * p + j = omega arith in e)
    ∙ sym (get_or-chunk (48 * p) 48 ROOT_POWERS j 0 (omega arith)) ∙ row_at p j lt (omega arith) in
    get_or-zip2 bit_xor values row j 0 0 0 (omega arith) (omega arith)
    ∙ ap₂ bit_xor
    (h j lj ∙ ap (λ (k : ℕ). times (word_value i (take p symbols)) (nth_power i k)) (let e : 48 - p ≡ 47 - p + 1 = omega arith in e))
    (lane_at ROOT_POWERS row f (3 * p) j room lj hr ∙ ap (times f) at)
    ∙ more_symbols i f p (47 - p) symbols (omega arith) hf
    ∙ ap (λ (k : ℕ). times (word_value i (take (p + 1) symbols)) (nth_power i k)) (let e : 47 - p ≡ 48 - (p + 1) = omega arith in e)

pub all_first : (symbols values : List ℕ) → length symbols ≡ 48 → HasFirst symbols values 48 → (j : ℕ) → j < 16 → get_or values j 0 ≡ word_value (power (j + 1)) symbols
all_first symbols values ls h j lt =
    h j lt ∙ times_one (word_value (power (j + 1)) (take 48 symbols)) (word_value-lt (power (j + 1)) (take 48 symbols))
    ∙ ap (word_value (power (j + 1))) (take_all 48 symbols (omega arith))
