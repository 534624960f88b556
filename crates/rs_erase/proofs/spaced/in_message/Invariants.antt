use Rattle.std.proofs.Common.{ℕ, ◌<◌, get_or}
use Rattle.rs_erase.proofs.spaced.in_message.Given as goal

abbrev pub invariant-loop-j : goal.invariant-loop-j
invariant-loop-j l = (k : ℕ) → k < l.j → get_or l.places k 0 < 207
