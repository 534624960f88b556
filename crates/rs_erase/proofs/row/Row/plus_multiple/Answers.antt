use Rattle.std.proofs.Common.{◌∙◌, ◌++◌, ap}
use Rattle.rs_erase.specs.Polynomial.{add}
use Rattle.rs_erase.proofs.LaneRows.{three_scaled}
use Rattle.rs_erase.proofs.row.Row.plus_multiple.Goals as goal

pub returns : goal.returns
returns c =
    c.plus.ensures
    ∙ ap (add (c.args.self.first ++ (c.args.self.second ++ c.args.self.third)))
    (three_scaled c.args.factor c.args.other.first c.args.other.second c.args.other.third _ _ _ c.scaled.ensures c.scaled-2.ensures c.scaled-3.ensures)
