use Rattle.law_plan.proofs.PlanLaw.{canonical_utf8, read_again, one_text, one_plan}
use Rattle.law_plan.proofs.texts.canonical_texts_are_read_again.Goals as goal

pub returns-clause-utf8 : goal.returns-clause-utf8
returns-clause-utf8 c = canonical_utf8 c.args.a.now c.always_valid.ensures.schedule.in_lines

pub returns-clause-again : goal.returns-clause-again
returns-clause-again c = read_again c.args.a.now c.always_valid.ensures.schedule.in_lines

pub returns-clause-one_text : goal.returns-clause-one_text
returns-clause-one_text c = (one_text c.args.a.now c.args.b.now c.always_valid.ensures.schedule.in_lines c.always_valid-2.ensures.schedule.in_lines, one_plan c.args.a.now c.args.b.now)
