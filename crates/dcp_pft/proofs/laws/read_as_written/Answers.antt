use Rattle.dcp_pft.proofs.Payloads.{is_read_as_written}
use Rattle.dcp_pft.proofs.laws.read_as_written.Goals as goal

pub returns : goal.returns
returns c = is_read_as_written
