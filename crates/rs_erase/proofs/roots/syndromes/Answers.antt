use Rattle.std.proofs.Common.{arith, ap, get_or, List, ℕ, ◌∙◌}
use Rattle.rs_erase.proofs.Elements.{elements_of}
use Rattle.rs_erase.proofs.Solutions.{code_word_by_syndromes, value_of_elements}
use Rattle.rs_erase.proofs.roots.syndromes.Goals as goal

pub returns-clause-values : goal.returns-clause-values
returns-clause-values c = record {
  long = c.loop-j.invariant.long;
  each = λ k lt. c.loop-j.invariant.done k (omega arith) ∙ ap (λ (s : List ℕ). get_or s k 0) c.to_bytes-bytes.ensures.value ∙ c.values_at_roots.ensures.each k lt;
}

pub returns-clause-elements : goal.returns-clause-elements
returns-clause-elements c =
    value_of_elements c.args.word.now c.loop-j.value-items (elements_of c.args.word.now c.fits-word) c.loop-j.invariant.long (returns-clause-values c).each

pub returns-clause-code_word : goal.returns-clause-code_word
returns-clause-code_word c =
    code_word_by_syndromes c.args.word.now c.loop-j.value-items c.told-word c.fits-word c.loop-j.invariant.long (returns-clause-values c).each
