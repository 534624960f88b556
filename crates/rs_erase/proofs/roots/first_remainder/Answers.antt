use Rattle.std.proofs.Common.{arith, refl, subst, sym, List, ℕ, ◌≡◌}
use Rattle.rs_erase.specs.Register.{HasFirstRemainder}
use Rattle.rs_erase.specs.Rows.{listed}
use Rattle.rs_erase.proofs.FirstRemainders.{none_first}
use Rattle.rs_erase.proofs.roots.first_remainder.Goals as goal

pub loop-j-init : goal.loop-j-init
loop-j-init c = subst (λ (v : List ℕ). HasFirstRemainder c.args.word.now v 0) (sym c.zeros-remainder.ensures) (none_first c.args.word.now)

pub loop-j-preserved : goal.loop-j-preserved
loop-j-preserved c = c.with_element-remainder.ensures c.args.word.now c.told-word refl c.loop-j.invariant

pub returns : goal.returns
returns c =
    let end : c.loop-j.j ≡ 16 = omega arith in
    subst (λ (k : ℕ). HasFirstRemainder c.args.word.now (listed c.loop-j.remainder) k) end c.loop-j.invariant
