use Rattle.std.proofs.Common.{rules}
use Rattle.rs_erase.proofs.SpacingRows.{one_row_more}
use Rattle.rs_erase.proofs.spacing.write_row.Goals as goal

pub returns : goal.returns
returns c =
    one_row_more c.args.distance c.args.row c.args.quotients.now c.args.table.now c.row_of-lanes.result c.write_lanes.new.bytes (search rules) c.requires.row (search rules)
    c.write_lanes.ensures c.row_of-lanes.ensures c.requires.earlier
