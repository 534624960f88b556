use Rattle.plan_rows.proofs.GivenLemmas.{table_gives}
use Rattle.plan_rows.proofs.laws.lines_give_rows.Goals as goal

pub returns : goal.returns
returns c = table_gives
