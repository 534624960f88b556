use Rattle.std.proofs.Common.{refl}
use Rattle.dcp_collect.specs.Runs.{Lost, Damaged}
use Rattle.drm_gate.specs.Passing.{Missing, Bad}
use Rattle.drm_gate.proofs.Tallying.{one_missing, one_bad}
use Rattle.drm_gate.proofs.ItemLemmas.{unsent}
use Rattle.drm_gate.proofs.item.pass.Goals as goal

pub returns-in-Lost-clause-one : goal.returns-in-Lost-clause-one
returns-in-Lost-clause-one g c =
    rw c.in-Lost.is (unsent c.args.sender.now c.args.first (Lost _ _ _) Missing c.args.tally.now _ (g.O.Outlets.up c.args.outlets.now) (λ events. g.O.Outlets.happened events c.args.outlets.now c.args.outlets.now) tt refl (one_missing c.args.tally.now) (g.met.O.Outlets.nothing c.args.outlets.now))

pub returns-in-Damaged-clause-one : goal.returns-in-Damaged-clause-one
returns-in-Damaged-clause-one g c =
    rw c.in-Damaged.is (unsent c.args.sender.now c.args.first (Damaged _) Bad c.args.tally.now _ (g.O.Outlets.up c.args.outlets.now) (λ events. g.O.Outlets.happened events c.args.outlets.now c.args.outlets.now) tt refl (one_bad c.args.tally.now) (g.met.O.Outlets.nothing c.args.outlets.now))
