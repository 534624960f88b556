use Rattle.std.proofs.Common.{ℕ, ◌<◌, map, slice_index_or}
use Rattle.report_journal.specs.Journal.{entry_of}
use Rattle.drm_paths.specs.State.{PathState}
use Rattle.drm_paths.specs.Closing.{EntriesAgree}
use Rattle.drm_paths.proofs.close.compare.Given as goal

-- the paths so far agree
abbrev pub invariant-loop-path : goal.invariant-loop-path
invariant-loop-path g l = (k : ℕ) (none : PathState) → k < l.path-index → EntriesAgree (map entry_of l.entries) (slice_index_or l.paths k none)
