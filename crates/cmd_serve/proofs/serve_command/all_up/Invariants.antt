use Rattle.std.proofs.Common.{◌≡◌, ℕ, ◌<◌, true}
use Rattle.drm_links.specs.Calls.{is_up}
use Rattle.cmd_serve.proofs.serve_command.all_up.Given as goal

abbrev pub invariant-loop-k : goal.invariant-loop-k
invariant-loop-k g l = (j : ℕ) → j < l.k → is_up (g.G.Group.up l.group) j ≡ true
