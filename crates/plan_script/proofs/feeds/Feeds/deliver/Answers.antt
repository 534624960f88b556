use Rattle.std.proofs.Common.{arith}
use Rattle.plan_script.proofs.Putting.{last_fits}
use Rattle.plan_script.proofs.feeds.Feeds.deliver.Goals as goal

pub overflow_add-last : goal.overflow_add-last
overflow_add-last c = omega (arith, last_fits c.args.plan.now c.in-Packets.first c.in-Packets.last c.args.delivers c.always_valid.ensures.schedule c.requires.within c.in-Packets.is)
