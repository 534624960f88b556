use Rattle.std.proofs.Common.{◌*◌}
use Rattle.dcp_pft.specs.Coding.{byte_or_zero}
use Rattle.std.proofs.Common.{ℕ, ◌≡◌, ◌+◌, ◌<◌}
use Rattle.dcp_pft.proofs.turn.halve.Given as goal

-- the bytes so far stand in both halves
abbrev pub invariant-loop-i : goal.invariant-loop-i
invariant-loop-i l =
    (n : ℕ) → n < 16 * l.i → (byte_or_zero l.into n ≡ byte_or_zero l.from (2 * n)) × (byte_or_zero l.into (l.half + n) ≡ byte_or_zero l.from (2 * n + 1))
