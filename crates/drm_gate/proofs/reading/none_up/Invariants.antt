use Rattle.std.proofs.Common.{◌≡◌, ℕ, ◌<◌, false}
use Rattle.drm_links.specs.Calls.{is_up}
use Rattle.drm_gate.proofs.reading.none_up.Given as goal

abbrev pub invariant-loop-k : goal.invariant-loop-k
invariant-loop-k g l = (j : ℕ) → j < l.k → is_up (g.R.Outlets.up l.relay) j ≡ false
