use Rattle.law_paths.proofs.Reporting.{reports_all}
use Rattle.law_paths.proofs.laws.paths_report_all_frames.Goals as goal

pub returns : goal.returns
returns c = reports_all c.laws_of_deliveries.ensures.all_frames c.paths_report_deliveries.ensures
