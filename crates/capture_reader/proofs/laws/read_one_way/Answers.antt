use Rattle.capture_reader.proofs.CaptureLaws.{read_one_way}
use Rattle.capture_reader.proofs.laws.read_one_way.Goals as goal

pub returns : goal.returns
returns c = read_one_way
