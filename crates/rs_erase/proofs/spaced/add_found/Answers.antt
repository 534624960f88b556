use Rattle.std.proofs.Common.{List, ℕ, ◌≡◌, ◌+◌, ◌∙◌, arith, ap, ap₂, bit_xor, drop, get_or, slice_set, sym}
use Rattle.std.proofs.lemmas.Grind.{get_or_default_zero}
use Rattle.std.proofs.lemmas.List.{drop_more}
use Rattle.gf_field.specs.Field.{times}
use Rattle.rs_erase.specs.Equations.{word_with}
use Rattle.rs_erase.proofs.spaced.add_found.Goals as goal

pub loop-j-preserved : goal.loop-j-preserved
loop-j-preserved c = λ vs long each.
    let j = c.loop-j.j in
    let places = c.args.places.now in
    let w = c.loop-j.word in
    let lt = c.loop-j-test.true in
    let few = c.requires.within_limit in
    let value : c.word.inside.0 ≡ get_or vs j 0 =
    c.word.view_is ∙ c.mul.ensures.value
    ∙ ap₂ times (get_or_default_zero c.args.weights.now j _ (let l = c.type_inv.weights in omega (arith, l, lt, few))) (ap (λ i. get_or c.args.sums.now i 0) c.from.ensures)
    ∙ sym (each j lt) in
    ap₂ (λ e v. word_with (drop (j + 1) places) (drop (j + 1) vs) (slice_set w e (bit_xor (get_or w e 0) v))) c.from-in-loop-j.ensures value
    ∙ sym (ap₂ (λ (es fs : List ℕ). word_with es fs w) (drop_more places j 0 lt) (drop_more vs j 0 (omega (arith, lt, long))))
    ∙ c.loop-j.invariant vs long each
