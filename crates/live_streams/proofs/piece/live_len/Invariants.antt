use Rattle.std.proofs.Common.{◌≡◌, ◌≤◌, ◌+◌, ◌*◌, drop}
use Rattle.live_streams.specs.Live.{size_from}
use Rattle.live_streams.proofs.piece.live_len.Given as goal

-- what the streams so far have, and what the others have, is what all have
abbrev pub invariant-loop-k : goal.invariant-loop-k
invariant-loop-k l = (l.len + size_from l.live l.k (drop l.k l.streams) ≡ size_from l.live 0 l.streams) × (l.len ≤ 8190 * l.k)
