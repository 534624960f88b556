use Rattle.plan_script.proofs.StepLemmas.{begins, begins_counted, adds, adds_counted}
use Rattle.plan_script.proofs.feeds.Feeds.judge.Goals as goal

pub returns-in-Feed-clause-steps : goal.returns-in-Feed-clause-steps
returns-in-Feed-clause-steps c = rw c.in-Feed.is (begins c.args.plan.now c.args.self.now c.begin.new.self c.args.n c.begin.result c.requires.counted c.begin.ensures)

pub returns-in-Feed-clause-counted : goal.returns-in-Feed-clause-counted
returns-in-Feed-clause-counted c = begins_counted c.args.plan.now c.args.self.now c.begin.new.self c.args.n c.begin.result c.requires.counted c.begin.ensures

pub returns-in-Deliver-clause-steps : goal.returns-in-Deliver-clause-steps
returns-in-Deliver-clause-steps c =
    rw c.in-Deliver.is (adds c.args.plan.now c.args.self.now c.add.new.self c.args.n c.in-Deliver.delivers c.add.result c.requires.counted (record { without = c.add.ensures.none; within = c.add.ensures.open }))

pub returns-in-Deliver-clause-counted : goal.returns-in-Deliver-clause-counted
returns-in-Deliver-clause-counted c =
    adds_counted c.args.plan.now c.args.self.now c.add.new.self c.args.n c.in-Deliver.delivers c.add.result c.requires.counted (record { without = c.add.ensures.none; within = c.add.ensures.open })
