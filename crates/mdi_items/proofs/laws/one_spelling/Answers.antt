use Rattle.mdi_items.proofs.SpellingLemmas.{one_spelling}
use Rattle.mdi_items.proofs.laws.one_spelling.Goals as goal

pub returns : goal.returns
returns c = λ p payload other is is_too small small_too. one_spelling p payload other is is_too small small_too
