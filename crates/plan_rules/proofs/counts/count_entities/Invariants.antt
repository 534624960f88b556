use Rattle.std.proofs.Common.{◌≡◌, ◌+◌, ◌≤◌, length}
use Rattle.plan_rules.specs.Rules.{count_entities}
use Rattle.plan_rules.proofs.counts.count_entities.Given as goal

-- what was counted comes to those before
abbrev pub invariant-loop-left : goal.invariant-loop-left
invariant-loop-left l = (count_entities 0 l.lines ≡ count_entities 0 l.left + l.count) × (l.count + length l.left ≤ length l.lines)

abbrev pub decreases-loop-left : goal.decreases-loop-left
decreases-loop-left l = length l.left
