use Rattle.std.proofs.Common.{◌∙◌}
use Rattle.plan_script.proofs.EndLemmas.{ends_without, ends_with}
use Rattle.plan_script.proofs.feeds.Feeds.finish.Goals as goal

pub returns-in-None : goal.returns-in-None
returns-in-None c = rw c.fault_at_line.ensures (ends_without c.args.self c.args.n c.in-None.is (c.requires.open c.in-None.is))

pub returns-in_ok-push-in-Some : goal.returns-in_ok-push-in-Some
returns-in_ok-push-in-Some c = ends_with c.args.self c.in-Some.feed c.new.result c.args.n c.in-Some.is (c.new.ensures ∙ c.in_ok-push-in-Some.ensures.pushed)
