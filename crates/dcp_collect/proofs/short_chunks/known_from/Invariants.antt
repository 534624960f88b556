use Rattle.std.proofs.Common.{ℕ, true, ◌≡◌, ◌+◌, ◌%◌, ◌<◌, ◌≤◌, length, get_or}
use Rattle.rs_patterns.specs.Marks.{is_marked}
use Rattle.dcp_collect.proofs.short_chunks.known_from.Given as goal

-- the known ones of the first bytes are there
abbrev pub invariant-loop-j : goal.invariant-loop-j
invariant-loop-j l = record {
  long : length l.places ≡ 63;
  few : l.len ≤ l.j;
  index : l.index ≡ (l.first + l.j) % l.count;
  within : (i : ℕ) → i < l.len → get_or l.places i 0 < l.k + 48;
  each : (j : ℕ) → j < l.j → is_marked l.marks ((l.first + j) % l.count) ≡ true → (i : ℕ) × (i < l.len) × (get_or l.places i 0 ≡ j);
}
