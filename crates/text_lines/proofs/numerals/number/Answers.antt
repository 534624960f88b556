use Rattle.std.proofs.Common.{◌∙◌, ◌≡◌, sym, subst, ℕ, ◌<◌, ◌^◌, Option}
use Rattle.std.specs.Prelude.{IfSome}
use Rattle.text_lines.specs.Numbers.{number_of}
use Rattle.text_lines.proofs.NumberLemmas.{found, found_below, none}
use Rattle.text_lines.proofs.numerals.number.Goals as goal

pub returns-then-has_number-clause-value : goal.returns-then-has_number-clause-value
returns-then-has_number-clause-value c = c.ok.ensures.value ∙ found c.args.word.now _ _ c.has_number.ensures c.if-has_number.true c.parse.ensures.value.0

pub returns-then-has_number-clause-in_range : goal.returns-then-has_number-clause-in_range
returns-then-has_number-clause-in_range c =
    let e : c.ok.result ≡ number_of c.args.word.now = c.ok.ensures.value ∙ found c.args.word.now _ _ c.has_number.ensures c.if-has_number.true c.parse.ensures.value.0 in
    subst (λ (o : Option ℕ). IfSome o (λ n. n < 10 ^ 10)) (sym e) (found_below c.args.word.now)

pub returns-else-has_number-clause-value : goal.returns-else-has_number-clause-value
returns-else-has_number-clause-value c = none c.args.word.now _ c.has_number.ensures c.if-has_number.false
