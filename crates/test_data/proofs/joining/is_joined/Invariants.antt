use Rattle.std.proofs.Common.{◌≡◌}
use Rattle.test_data.proofs.joining.is_joined.Given as goal

-- the packets stay as long as they were
abbrev pub invariant-loop-k : goal.invariant-loop-k
invariant-loop-k l = l.packer.length ≡ 255
