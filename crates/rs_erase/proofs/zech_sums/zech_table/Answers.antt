use Rattle.rs_erase.proofs.ZechSums.{table_is}
use Rattle.rs_erase.proofs.zech_sums.zech_table.Goals as goal

pub returns : goal.returns
returns c = table_is c.logarithm_table.ensures c.power_table.ensures
