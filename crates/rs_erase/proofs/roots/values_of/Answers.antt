use Rattle.std.proofs.Common.{arith, refl, subst, sym, List, ℕ, ◌≡◌}
use Rattle.rs_erase.specs.Rows.{listed}
use Rattle.rs_erase.proofs.RootSums.{HasSummed, all_summed, none_summed, one_summed}
use Rattle.rs_erase.proofs.roots.values_of.Goals as goal

pub loop-p-init : goal.loop-p-init
loop-p-init c = subst (λ (v : List ℕ). HasSummed c.args.symbols.now v 0) (sym c.zeros-values.ensures) (none_summed c.args.symbols.now)

pub loop-p-preserved : goal.loop-p-preserved
loop-p-preserved c =
    one_summed c.args.symbols.now (listed c.loop-p.values) _ _ _ c.loop-p.p c.loop-p-test.true c.told-symbols refl
    c.powers_of_roots.ensures c.plus_multiple-values.ensures c.loop-p.invariant

pub returns : goal.returns
returns c = λ j lt.
    let end : c.loop-p.p ≡ 48 = omega arith in
    all_summed c.args.symbols.now (listed c.loop-p.values) c.told-symbols (subst (λ (p : ℕ). HasSummed c.args.symbols.now (listed c.loop-p.values) p) end c.loop-p.invariant) j lt
