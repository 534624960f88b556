use Rattle.std.proofs.Common.{◌≡◌, map, reverse, false}
use Rattle.std.specs.List.{range_with_len}
use Rattle.plan_script.specs.Script.{delivery, all_of}
use Rattle.plan_script.specs.Steps.{with_all, is_full}
use Rattle.plan_script.proofs.feeds.Feeds.put_back.Given as goal

abbrev pub invariant-loop-left : goal.invariant-loop-left
invariant-loop-left l =
    (with_all l.plan (reverse (map (delivery l.number) (range_with_len 0 l.left))) l.self ≡ with_all l.plan (reverse (all_of l.plan l.number)) l.initial.self)
    × (is_full l.self ≡ false)

abbrev pub decreases-loop-left : goal.decreases-loop-left
decreases-loop-left l = l.left
