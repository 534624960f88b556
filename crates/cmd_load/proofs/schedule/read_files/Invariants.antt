use Rattle.std.proofs.Common.{◌≡◌, ◌-◌, length}
use Rattle.drm_links.specs.Shelf.{ShelfSupplies}
use Rattle.cmd_load.specs.Schedule.{with_files}
use Rattle.cmd_load.proofs.LoadingLemmas.{Reached}
use Rattle.cmd_load.proofs.schedule.read_files.Given as goal

-- what comes from here on is what comes from the start
abbrev pub invariant-loop-k : goal.invariant-loop-k
invariant-loop-k g l =
    ShelfSupplies (g.S.Shelf.known l.fn.shelf) (g.S.Shelf.known l.shelf) (Reached (with_files (length l.fn.draft.files) 0 l.fn.draft) (with_files (l.files - l.k) l.k l.draft))
    × (length l.draft.files ≡ l.files)
    × ((g.S.Shelf.known l.shelf).faults ≡ (g.S.Shelf.known l.fn.shelf).faults)
