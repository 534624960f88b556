use Rattle.std.proofs.Common.{◌≡◌, ℕ, ◌+◌, ◌++◌, ◌<◌, ◌≤◌, All, vec_len, vec_capacity, slice_index_or, length, map}
use Rattle.std.specs.Vec.Iter.{into_iter_items}
use Rattle.drm_links.specs.Known.{KnownThrough}
use Rattle.drm_links.specs.declared.dock.Address.{Address}
use Rattle.drm_links.specs.Dock.{DockKnownThrough, HasLink}
use Rattle.drm_links.proofs.OpeningLemmas.{Opened}
use Rattle.cmd_paths.proofs.open.open_links.Given as goal

-- each job so far has the link of its address, and the path of its seat
abbrev pub invariant-loop-seat : goal.invariant-loop-seat
invariant-loop-seat g l =
    (vec_len l.receivers ≡ l.k) × (length l.receivers.items ≡ l.k)
    × ((g.D.Dock.known l.dock).faults ≡ (g.D.Dock.known l.fn.dock).faults)
    × KnownThrough (g.D.Dock.known l.fn.dock) (g.D.Dock.known l.dock) (Opened l.addresses l.k)
    × ((k : ℕ) (d : g.row.D-L.Denot) → k < l.k → (at : Address)
    → DockKnownThrough (g.D.Dock.known l.fn.dock) (g.D.Dock.known l.dock) (λ contents. HasLink g.D.L.Link.known contents k (slice_index_or l.addresses k at) (slice_index_or (map (λ receiver. receiver.link) l.receivers.items) k d)))
    × (length l.addresses ≤ vec_capacity l.receivers)
    × (map (λ receiver. receiver.path) l.receivers.items ++ map (λ seat. seat.path) (into_iter_items l.seat-iterator) ≡ map (λ seat. seat.path) l.fn.seats.items)
    × All (λ receiver. vec_len receiver.buffer ≡ 65536) l.receivers.items
    × All (λ seat. vec_len seat.buffer ≡ 65536) (into_iter_items l.seat-iterator)
    × (l.k + length (into_iter_items l.seat-iterator) ≡ length l.addresses)
