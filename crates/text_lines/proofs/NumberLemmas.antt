-- What `parse` gives for the digits of a number.
use Rattle.std.proofs.Common.{◌≡◌, ℕ, ◌<◌, ◌^◌, ◌≤◌, Bool, true, false, cond, List, length, Some, None, Result, Ok, arith, rules, refl, sym}
use Rattle.std.specs.Prelude.{IfSome}
use Rattle.std.specs.Result.{result_ok}
use Rattle.std.proofs.lemmas.Bool.Decides.{nat_tests}
use Rattle.text_lines.specs.Numbers.{is_number, number_of}
use Rattle.std.specs.List.{list_all}
use Rattle.std.specs.Char.{is_ascii_digit}
use Rattle.std.specs.Str.Parse.{digits_value, ParsesUnsigned}
use Rattle.std.proofs.lemmas.Str.Parse.{IsDigitsTest, IsNumeralModel, numerals_by_value, digits_value_short, parse_gives}

digits_test : IsDigitsTest (λ ds. list_all is_ascii_digit ds ≡ true)
digits_test = search rules

pub own : IsNumeralModel (λ ds. list_all is_ascii_digit ds ≡ true) (digits_value 10)
own = numerals_by_value _ digits_test

pub number_below : (ds : List ℕ) → list_all is_ascii_digit ds ≡ true → length ds ≤ 10 → digits_value 10 ds < 10 ^ 10
number_below ds digits short = digits_value_short own ds 10 digits short

pub parsed : {E : Type 0} (ds : List ℕ) (r : Result ℕ E) → ParsesUnsigned 64 10 ds r → list_all is_ascii_digit ds ≡ true → 0 < length ds → length ds ≤ 10 → r ≡ Ok (digits_value 10 ds)
parsed ds r gives digits some short = parse_gives own 64 ds r gives digits some (omega (arith, number_below ds digits short))

pub record IsShort (ds : List ℕ) : Type 0 where
  pub some : 0 < length ds
  pub short : length ds ≤ 10
  pub digits : list_all is_ascii_digit ds ≡ true

pub parts_of : (ds : List ℕ) → is_number ds ≡ true → IsShort ds
parts_of ds holds = record { some = grind (arith, nat_tests); short = grind (arith, nat_tests); digits = grind (arith, nat_tests) }

pub found : {E : Type 0} (ds : List ℕ) (b : Bool) (r : Result ℕ E) → b ≡ is_number ds → b ≡ true → ParsesUnsigned 64 10 ds r → result_ok r ≡ number_of ds
unfolding number_of
found ds b r is holds gives =
    let parts = parts_of ds (cc) in
    let e : is_number ds ≡ true = cc in
    rw (parsed ds r gives parts.digits parts.some parts.short, e) refl

pub none : (ds : List ℕ) (b : Bool) → b ≡ is_number ds → b ≡ false → None ≡ number_of ds
unfolding number_of
none ds b is fails =
    let e : is_number ds ≡ false = cc in
    rw e refl

pub found_below : (ds : List ℕ) → IfSome (number_of ds) (λ n. n < 10 ^ 10)
unfolding number_of
found_below ds = below (is_number ds) refl
  where
    below : (b : Bool) → b ≡ is_number ds → IfSome (cond b (Some (digits_value 10 ds)) None) (λ n. n < 10 ^ 10)
    below true e = let parts = parts_of ds (sym e) in number_below ds parts.digits parts.short
    below false e = tt
