use Rattle.std.proofs.Common.{rules}
use Rattle.rs_erase.proofs.LaneRows.{three_sums}
use Rattle.rs_erase.proofs.row.Row.plus.Goals as goal

pub returns : goal.returns
returns c =
    three_sums c.args.self.first c.args.self.second c.args.self.third c.args.other.first c.args.other.second c.args.other.third
    (search rules) (search rules) (search rules) (search rules) (search rules) (search rules)
