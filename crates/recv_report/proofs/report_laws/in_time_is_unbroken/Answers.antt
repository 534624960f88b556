use Rattle.recv_report.proofs.Unbroken.{none_breaks_off}
use Rattle.recv_report.proofs.report_laws.in_time_is_unbroken.Goals as goal

pub returns : goal.returns
returns c = none_breaks_off c.all_frames_are_given_at_once.ensures
