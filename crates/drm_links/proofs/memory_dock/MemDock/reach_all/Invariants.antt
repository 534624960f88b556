use Rattle.std.proofs.Common.{◌≡◌, ℕ, ◌<◌, ◌≤◌, vec_len, vec_capacity, slice_index_or, length}
use Rattle.drm_links.specs.Known.{KnownThrough}
use Rattle.drm_links.specs.declared.dock.Address.{Address}
use Rattle.drm_links.specs.Dock.{DockKnownThrough, HasLink}
use Rattle.drm_links.specs.Members.{AreUp, AreNew}
use Rattle.drm_links.specs.declared.member.Member.{Member}
use Rattle.drm_links.proofs.ReachLemmas.{Reached}
use Rattle.drm_links.specs.MemoryLink.{LinkState, link_known}
use Rattle.drm_links.specs.MemoryDock.{dock_known}
use Rattle.drm_links.proofs.memory_dock.MemDock.reach_all.Given as goal

-- each link so far is that of its address
abbrev pub invariant-loop-k : goal.invariant-loop-k
invariant-loop-k l =
    (vec_len l.members ≡ l.k) × (length l.members.items ≡ l.k)
    × (length l.addresses ≤ vec_capacity l.members)
    × AreUp l.members.items
    × ((dock_known l.self).faults ≡ (dock_known l.fn.self).faults)
    × KnownThrough (dock_known l.fn.self) (dock_known l.self) (Reached l.addresses l.k)
    × ((k : ℕ) (d : Member LinkState) → k < l.k → (at : Address)
    → DockKnownThrough (dock_known l.fn.self) (dock_known l.self) (λ contents. HasLink link_known contents k (slice_index_or l.addresses k at) (slice_index_or l.members.items k d).link))
    × AreNew link_known (λ (l : LinkState). l.idles) l.members.items
