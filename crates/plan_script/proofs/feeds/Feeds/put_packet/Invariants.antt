use Rattle.std.proofs.Common.{◌≡◌, ◌-◌, map, false}
use Rattle.std.specs.List.{range_with_len}
use Rattle.plan_script.specs.Script.{delivery, all_of}
use Rattle.plan_script.specs.Steps.{with_all, is_full}
use Rattle.plan_script.proofs.feeds.Feeds.put_packet.Given as goal

abbrev pub invariant-loop-i : goal.invariant-loop-i
invariant-loop-i l =
    (with_all l.plan (map (delivery l.number) (range_with_len l.i (l.count - l.i))) l.self ≡ with_all l.plan (all_of l.plan l.number) l.initial.self)
    × (is_full l.self ≡ false)
