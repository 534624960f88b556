use Rattle.capture_reader.proofs.SomeWay.{read_some_way}
use Rattle.capture_reader.proofs.laws.read_some_way.Goals as goal

pub returns : goal.returns
returns c = read_some_way
