use Rattle.rs_erase.proofs.OneWord.{one_parity}
use Rattle.rs_erase.proofs.laws.one_parity.Goals as goal

pub returns : goal.returns
returns c = one_parity
