use Rattle.law_gate.proofs.Schedules.{passes_schedules}
use Rattle.law_gate.proofs.laws.schedules_are_passed_on.Goals as goal

pub returns : goal.returns
returns c = passes_schedules c.collecting.ensures c.giving_ends.ensures c.one_reading.ensures c.one_run.ensures
