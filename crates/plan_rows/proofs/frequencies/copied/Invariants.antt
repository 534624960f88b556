use Rattle.std.proofs.Common.{◌≡◌, take}
use Rattle.plan_rows.proofs.frequencies.copied.Given as goal

abbrev pub invariant-loop-channel : goal.invariant-loop-channel
invariant-loop-channel l = l.made ≡ take l.channel-index l.list
