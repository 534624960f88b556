use Rattle.std.proofs.Common.{◌≡◌, ◌+◌, length, vec_len}
use Rattle.std.specs.Prelude.{sum_by}
use Rattle.drm_paths.proofs.close.merged.Given as goal

abbrev pub invariant-loop-path : goal.invariant-loop-path
invariant-loop-path g l =
    (l.all.parts + sum_by (λ p. p.parts) l.paths.items ≡ sum_by (λ p. p.parts) l.fn.paths.items)
    × (l.all.parts + length l.paths.items ≡ length l.fn.paths.items)
    × (l.all.amount + sum_by (λ p. length p.taken) l.paths.items ≡ sum_by (λ p. length p.taken) l.fn.paths.items)

abbrev pub decreases-loop-path : goal.decreases-loop-path
decreases-loop-path g l = vec_len l.paths
