use Rattle.law_paths.proofs.Reporting.{reports_deliveries}
use Rattle.law_paths.proofs.laws.paths_report_deliveries.Goals as goal

pub returns : goal.returns
returns c =
    let laws = c.laws_of_deliveries.ensures in
    reports_deliveries laws.delivering (record { in_time = laws.in_time; at_starts = laws.at_starts; all_switches = laws.all_switches; lines = laws.lines })
