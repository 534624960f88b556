use Rattle.rs_erase.proofs.Decided.{code_word_or_none}
use Rattle.rs_erase.proofs.laws.code_word_or_none.Goals as goal

pub returns : goal.returns
returns c = code_word_or_none
