use Rattle.law_text.proofs.LostPieces.{gives_what_is_whole}
use Rattle.law_text.proofs.laws.gives_what_is_whole.Goals as goal

pub returns : goal.returns
returns c = gives_what_is_whole
