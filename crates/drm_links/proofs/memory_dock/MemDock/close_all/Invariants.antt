use Rattle.std.proofs.Common.{◌≡◌, ◌≤◌, length, drop}
use Rattle.std.specs.Vec.Iter.{into_iter_items}
use Rattle.drm_links.specs.Known.{KnownThrough}
use Rattle.drm_links.specs.MemoryLink.{link_known}
use Rattle.drm_links.proofs.CloseLemmas.{Closing}
use Rattle.drm_links.specs.MemoryDock.{dock_known}
use Rattle.drm_links.proofs.memory_dock.MemDock.close_all.Given as goal

-- what the dock tells once the other links are closed, too
abbrev pub invariant-loop-member : goal.invariant-loop-member
invariant-loop-member l =
    KnownThrough (dock_known l.fn.self) (dock_known l.self) (Closing link_known l.fn.members.items l.addresses l.k)
    × (into_iter_items l.member-iterator ≡ drop l.k l.fn.members.items)
    × (l.k ≤ length l.fn.members.items)
    × ((dock_known l.self).faults ≡ (dock_known l.fn.self).faults)
