use Rattle.law_data.proofs.Totals.{written_is_read}
use Rattle.law_data.proofs.laws.written_is_read.Goals as goal

pub returns : goal.returns
returns c = written_is_read
