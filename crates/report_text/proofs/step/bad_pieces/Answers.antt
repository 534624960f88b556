use Rattle.std.proofs.Common.{append_assoc, refl}
use Rattle.report_text.proofs.step.bad_pieces.Goals as goal

pub returns : goal.returns
returns c = rw (← c.bad_words-words.ensures) (rw append_assoc refl)
