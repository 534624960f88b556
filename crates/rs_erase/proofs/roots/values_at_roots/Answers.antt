use Rattle.std.proofs.Common.{arith, ap, rules, sym, ◌∙◌, ◌+◌}
use Rattle.gf_field.specs.Field.{power}
use Rattle.rs_erase.specs.Equations.{word_value}
use Rattle.rs_erase.proofs.Elements.{elements_of}
use Rattle.rs_erase.proofs.LaneRows.{length_three}
use Rattle.rs_erase.proofs.WordValues.{value-reverse}
use Rattle.rs_erase.proofs.roots.values_at_roots.Goals as goal

pub returns : goal.returns
returns c = record {
  long = length_three c.values_of.result.first c.values_of.result.second c.values_of.result.third (search rules) (search rules) (search rules);
  each = λ k lt. c.values_of.ensures k lt
      ∙ ap (word_value (power (k + 1))) c.to_bytes-remainder.ensures.value ∙ c.word_remainder.ensures (k + 1) (omega arith) (omega arith)
      ∙ sym (value-reverse (power (k + 1)) c.args.word.now (elements_of c.args.word.now c.fits-word));
}
