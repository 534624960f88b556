use Rattle.std.proofs.Common.{ℕ, ◌≡◌, ◌+◌, ◌*◌, ◌<◌, Bool, false, length, get_or}
use Rattle.dcp_pft.specs.Loss.{size}
use Rattle.dcp_collect.specs.Counters.{AreCounted, AreUpTo, has_enough}
use Rattle.dcp_collect.proofs.Covering.{uncovered, come}
use Rattle.dcp_collect.proofs.counters.cover_by_bytes.Given as goal

-- the bytes before this row are counted
abbrev pub invariant-loop-row : goal.invariant-loop-row
invariant-loop-row l = record {
  long : length l.covered ≡ length l.initial.covered;
  small : AreUpTo (255 + l.row) l.chunks l.covered;
  full : l.full ≡ size l.chunks (has_enough l.k l.covered);
  counted : (kept : ℕ → Bool) → kept l.index ≡ false → AreCounted l.count kept (l.k + 48) l.chunks l.initial.covered
      → (q : ℕ) → q < l.chunks → get_or l.covered q 0 + uncovered (come l.count l.index kept l.row) (q * (l.k + 48)) (l.k + 48) ≡ l.k + 48;
}
