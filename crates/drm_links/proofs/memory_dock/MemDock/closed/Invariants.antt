use Rattle.std.proofs.Common.{◌≡◌}
use Rattle.std.specs.Ordering.{nat_cmp}
use Rattle.std.specs.Cmp.Lexicographic.{slice_cmp}
use Rattle.std.specs.FinMap as map
use Rattle.drm_links.specs.Dock.{address_key}
use Rattle.drm_links.specs.ClosedLinks.{entries_of}
use Rattle.drm_links.specs.MemoryDock.{closed_at}
use Rattle.drm_links.proofs.memory_dock.MemDock.closed.Given as goal

abbrev pub invariant-loop-node : goal.invariant-loop-node
invariant-loop-node l =
    (goal.iterator-loop-node).can_next l.nodes
    × (goal.iterator-loop-node).is_finite l.nodes
    × (closed_at l.self l.fn.at ≡ map.find (slice_cmp nat_cmp) (address_key l.fn.at) (entries_of l.nodes))
