use Rattle.capture_reader.proofs.ReadingLemmas.{finds_stop}
use Rattle.capture_reader.proofs.packets.Packets.find.Goals as goal

pub returns-clause-stops : goal.returns-clause-stops
returns-clause-stops g c = λ packets before read.
    finds_stop c.seek.result c.args.self.now _ (g.I.Source.known c.args.input.now) _ c.seek.ensures.finds packets before read
