use Rattle.plan_rules.proofs.CountLemmas.{none_is}
use Rattle.plan_rules.proofs.counts.lacks.Goals as goal

pub returns : goal.returns
returns c = rw c.has.ensures (none_is c.args.keyword c.args.lines.now)
