use Rattle.rs_erase.proofs.OneWord.{one_code_word_by_places}
use Rattle.rs_erase.proofs.laws.one_code_word.Goals as goal

pub returns : goal.returns
returns c = one_code_word_by_places
