-- What a text of digits spells.
use Rattle.std.proofs.Common.{◌≡◌, ℕ, ◌<◌, ◌^◌, ◌≤◌, Bool, true, false, List, length, get_or, Some, None, Result, arith, rules, refl, subst, eqb, leb, ◌&&◌}
use Rattle.std.specs.Result.{result_ok}
use Rattle.cli_syntax.proofs.OptionLemmas.{stepped}
use Rattle.std.specs.List.{list_all}
use Rattle.std.specs.Char.{is_ascii_digit}
use Rattle.std.specs.Str.Parse.{digits_value, ParsesUnsigned}
use Rattle.std.proofs.lemmas.Bool.Decides.{nat_tests}
use Rattle.std.proofs.lemmas.Option.{cond_some}
use Rattle.std.proofs.lemmas.Str.Parse.{IsDigitsTest, IsNumeralModel, numerals_by_value, digits_value_short, parse_gives}
use Rattle.cli_syntax.specs.Numbers.{IsNumber, IsNumberWithin}
use Rattle.cli_syntax.specs.Reading.{is_number, has_leading_zero, number_of, within}

digits_test : IsDigitsTest (λ ds. list_all is_ascii_digit ds ≡ true)
digits_test = search rules

own : IsNumeralModel (λ ds. list_all is_ascii_digit ds ≡ true) (digits_value 10)
own = numerals_by_value _ digits_test

-- what the test asks
pub spelled : (text : List ℕ) → is_number text ≡ true → IsNumber text (digits_value 10 text)
spelled text holds = record { some = grind (arith, nat_tests); short = grind (arith, nat_tests); digits = grind (arith, nat_tests); no_leading_zero = λ zero. grind (arith, nat_tests); value = refl }

pub parsed : {E : Type 0} (text : List ℕ) (b : Bool) (r : Result ℕ E) → b ≡ is_number text → b ≡ true → ParsesUnsigned 64 10 text r → result_ok r ≡ number_of text
unfolding number_of
parsed text b r is holds gives =
    let e : is_number text ≡ true = cc in
    let s = spelled text e in
    let small : digits_value 10 text < 10 ^ 10 = digits_value_short own text 10 s.digits s.short in
    rw (parse_gives own 64 text r gives s.digits s.some (omega (arith, small)), e) refl

pub unparsed : (text : List ℕ) (b : Bool) → b ≡ is_number text → b ≡ false → None ≡ number_of text
unfolding number_of
unparsed text b is fails =
    let e : is_number text ≡ false = cc in
    rw e refl

-- a text spells the number that is read, and no other
pub number_fits : (text : List ℕ) (n : ℕ) → number_of text ≡ Some n → IsNumber text n
unfolding number_of
number_fits text n e =
    let p = cond_some (is_number text) (digits_value 10 text) n e in
    subst (λ (v : ℕ). IsNumber text v) p.1 (spelled text p.0)

is_spelled : (text : List ℕ) (n : ℕ) → IsNumber text n → is_number text ≡ true
is_spelled text n h =
    let some : eqb (length text) 0 ≡ false = let p = h.some in grind (arith, nat_tests) in
    let short : leb (length text) 10 ≡ true = let p = h.short in grind (arith, nat_tests) in
    rw (some, short, h.digits, plain text h.no_leading_zero) refl
  where
    plain : (text : List ℕ) → (get_or text 0 0 ≡ 48 → length text ≡ 1) → has_leading_zero text ≡ false
    plain text h = by_first (eqb (get_or text 0 0) 48) refl
      where
        by_first : (b : Bool) → b ≡ eqb (get_or text 0 0) 48 → has_leading_zero text ≡ false
        by_first true is = let zero : get_or text 0 0 ≡ 48 = grind (arith, nat_tests) in let one = h zero in grind (arith, nat_tests)
        by_first false is = grind (arith, nat_tests)

pub number_is : (text : List ℕ) (n : ℕ) → IsNumber text n → number_of text ≡ Some n
unfolding number_of
number_is text n h = rw (is_spelled text n h, h.value) refl

pub within_fits : (least greatest : ℕ) (text : List ℕ) (n : ℕ) → within least greatest text ≡ Some n → IsNumberWithin least greatest text n
unfolding within
within_fits least greatest text n e =
    let p = stepped (number_of text) _ n e in
    let q = cond_some (leb least p.value && leb p.value greatest) p.value n p.rest in
    let low : least ≤ p.value = let t = q.0 in grind (arith, nat_tests) in
    let high : p.value ≤ greatest = let t = q.0 in grind (arith, nat_tests) in
    subst (λ (v : ℕ). IsNumberWithin least greatest text v) q.1 (number_fits text p.value p.is, low, high)

pub within_is : (least greatest : ℕ) (text : List ℕ) (n : ℕ) → IsNumberWithin least greatest text n → within least greatest text ≡ Some n
unfolding within
within_is least greatest text n h =
    let low : leb least n ≡ true = let p = h.1 in grind (arith, nat_tests) in
    let high : leb n greatest ≡ true = let p = h.2 in grind (arith, nat_tests) in
    rw (number_is text n h.0, low, high) refl
