use Rattle.mdi_items.proofs.RoundTripLemmas.{written_is_read}
use Rattle.mdi_items.proofs.laws.written_is_read.Goals as goal

pub returns : goal.returns
returns c = λ p payload suit is. written_is_read p payload suit is
