use Rattle.plan_grammar.proofs.SaysFits.{line_fits, keyword_read}
use Rattle.plan_grammar.proofs.SaidAgain.{said_again}
use Rattle.plan_grammar.proofs.laws.lines_are_said_again.Goals as goal

pub returns : goal.returns
returns c = record { again = said_again; fits = line_fits; keyword = keyword_read }
