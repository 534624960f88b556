use Rattle.plan_rows.proofs.LinesAgain.{table_written}
use Rattle.plan_rows.proofs.laws.lines_are_read_again.Goals as goal

pub returns : goal.returns
returns c = table_written
