use Rattle.recv_report.proofs.OneReport.{one_report}
use Rattle.recv_report.proofs.reading_laws.one_report.Goals as goal

pub returns : goal.returns
returns c = one_report
