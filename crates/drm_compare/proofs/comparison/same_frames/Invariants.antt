use Rattle.std.proofs.Common.{◌≡◌, ◌<◌, ◌≤◌, ℕ}
use Rattle.drm_timeline.specs.Numbers.{frame_count}
use Rattle.drm_compare.specs.Agreement.{SameDatagrams}
use Rattle.drm_compare.proofs.comparison.same_frames.Given as goal

abbrev pub invariant-loop-t : goal.invariant-loop-t
invariant-loop-t l = record {
  mine : l.mine.plan ≡ l.fn.mine.plan;
  theirs : l.theirs.plan ≡ l.fn.theirs.plan;
  within : l.frames ≤ frame_count l.fn.mine.plan;
  within_other : l.frames ≤ frame_count l.fn.theirs.plan;
  same : (t : ℕ) → t < l.t → SameDatagrams l.fn.mine.plan l.fn.theirs.plan t;
}
