use Rattle.std.proofs.Common.{◌≡◌, ◌≤◌, length}
use Rattle.rs_erase.proofs.short_chunks.write_rows.Given as goal

-- nothing overflows
abbrev pub invariant-loop-row : goal.invariant-loop-row
invariant-loop-row l = record { long : length l.rows ≡ 256; next : l.next ≤ length l.known; symbol : l.symbol ≤ length l.known }
