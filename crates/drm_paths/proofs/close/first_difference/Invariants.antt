use Rattle.std.proofs.Common.{◌≤◌, map}
use Rattle.report_journal.specs.Journal.{entry_of}
use Rattle.drm_paths.proofs.Comparing.{SoFar}
use Rattle.drm_paths.proofs.close.first_difference.Given as goal

-- up to here the entries have of the path the front of what it took
abbrev pub invariant-loop-entry : goal.invariant-loop-entry
invariant-loop-entry l = SoFar l.number (map entry_of l.entries) (map (λ d. d.items) l.kept) l.at l.entry-index × (l.at ≤ l.entry-index)
