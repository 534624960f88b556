use Rattle.std.proofs.Common.{◌≡◌, ◌-◌, false}
use Rattle.std.specs.List.{flat_map, range_with_len}
use Rattle.plan_script.specs.Script.{all_of}
use Rattle.plan_script.specs.Steps.{with_all, is_full}
use Rattle.plan_script.proofs.feeds.Feeds.put_packets.Given as goal

abbrev pub invariant-loop-number : goal.invariant-loop-number
invariant-loop-number l =
    (with_all l.plan (flat_map (all_of l.plan) (range_with_len l.number (l.end - l.number))) l.self
    ≡ with_all l.plan (flat_map (all_of l.plan) (range_with_len l.first (l.end - l.first))) l.initial.self)
    × (is_full l.self ≡ false)
