use Rattle.law_plan.proofs.WholeLaw.{made, makes, canonical_is_text}
use Rattle.law_plan.proofs.whole.texts_make_their_schedules.Goals as goal

pub returns : goal.returns
returns c = record { makes = λ text files schedule. (made text files schedule, makes text files schedule); canonical = canonical_is_text }
