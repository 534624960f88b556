use Rattle.std.proofs.Common.{◌≡◌, ◌∙◌, ap, arith, get_or, map, refl, rules, subst, ℕ}
use Rattle.gf_field.specs.Field.{times}
use Rattle.rs_erase.proofs.FirstValues.{HasFirst, all_first, none_first, one_first}
use Rattle.rs_erase.proofs.roots.first_values_of.Goals as goal

pub loop-p-init : goal.loop-p-init
loop-p-init c = none_first c.args.symbols.now

pub loop-p-preserved : goal.loop-p-preserved
loop-p-preserved c =
    let p = c.loop-p.p in
    let f = get_or c.args.symbols.now p 0 in
    one_first c.args.symbols.now c.loop-p.values c.scaled-values.result f p c.loop-p-test.true c.told-symbols refl
    (search rules) (c.scaled-values.ensures ∙ ap (map (times f)) c.lanes_from.ensures) c.loop-p.invariant

pub returns : goal.returns
returns c = λ j lt.
    let end : c.loop-p.p ≡ 48 = omega arith in
    all_first c.args.symbols.now c.loop-p.values c.told-symbols (subst (λ (p : ℕ). HasFirst c.args.symbols.now c.loop-p.values p) end c.loop-p.invariant) j lt
