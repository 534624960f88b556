use Rattle.rs_erase.specs.Rows.{listed}
use Rattle.rs_erase.proofs.FirstRemainders.{row_is}
use Rattle.rs_erase.proofs.roots.power_remainder.Goals as goal

pub returns : goal.returns
returns c = row_is c.args.j (listed c.from_place.result) c.requires c.from_place.ensures
