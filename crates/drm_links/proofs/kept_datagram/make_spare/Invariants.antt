use Rattle.std.proofs.Common.{◌≡◌, vec_len}
use Rattle.drm_links.proofs.kept_datagram.make_spare.Given as goal

abbrev pub invariant-loop : goal.invariant-loop
invariant-loop l = vec_len l.spare ≡ l.counter
