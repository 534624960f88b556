use Rattle.std.proofs.Common.{rules, replicate}
use Rattle.rs_erase.proofs.LaneRows.{three_from_second}
use Rattle.rs_erase.proofs.row.Row.from_second.Goals as goal

pub returns : goal.returns
returns c =
    three_from_second c.args.self.first c.args.self.second c.args.self.third (replicate 15 0) _ _ _ 0
    (search rules) (search rules) (search rules) c.one_on.ensures c.one_on-2.ensures c.one_on-3.ensures
