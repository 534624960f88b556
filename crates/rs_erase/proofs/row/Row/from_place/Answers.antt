use Rattle.rs_erase.proofs.LaneRows.{three_read}
use Rattle.rs_erase.proofs.row.Row.from_place.Goals as goal

pub returns : goal.returns
returns c = three_read c.args.place c.args.bytes.now _ _ _ c.lanes_from.ensures c.lanes_from-2.ensures c.lanes_from-3.ensures
