use Rattle.recv_reading.proofs.OneReading.{one_reading}
use Rattle.recv_report.proofs.reading_laws.one_reading_of_a_link.Goals as goal

pub returns : goal.returns
returns c = one_reading
