use Rattle.recv_report.proofs.Composing.{headline, complete}
use Rattle.recv_report.proofs.report_laws.reports_follow.Goals as goal

pub returns-clause-headlines : goal.returns-clause-headlines
returns-clause-headlines c =
    let laws = c.laws_of_deliveries.ensures in
    headline laws.delivering (record { in_time = laws.in_time; at_starts = laws.at_starts; all_switches = laws.all_switches; lines = laws.lines })

pub returns-clause-completes : goal.returns-clause-completes
returns-clause-completes c =
    let laws = c.laws_of_deliveries.ensures in
    complete (record {
      whole = laws.delivering;
      early = laws.early;
      refused = laws.refused;
      all_frames = laws.all_frames;
      items = record { in_time = laws.in_time; at_starts = laws.at_starts; all_switches = laws.all_switches; lines = laws.lines };
    })
