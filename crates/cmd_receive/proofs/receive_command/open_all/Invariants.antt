use Rattle.std.proofs.Common.{◌≡◌, ℕ, ◌+◌, ◌<◌, ◌≤◌, vec_len, vec_capacity, slice_index_or, length}
use Rattle.drm_links.specs.declared.dock.Address.{Address}
use Rattle.recv_report.specs.declared.receiver.Receiver.{Receiver}
use Rattle.drm_links.specs.Dock.{DockKnownThrough, HasLink}
use Rattle.recv_report.specs.Receivers.{IsReceiver}
use Rattle.drm_links.specs.Known.{KnownThrough}
use Rattle.drm_links.proofs.OpeningLemmas.{Opened}
use Rattle.cmd_receive.proofs.receive_command.open_all.Given as goal

-- each receiver so far has the link of its address
abbrev pub invariant-loop-k : goal.invariant-loop-k
invariant-loop-k g l =
    (vec_len l.receivers ≡ l.k) × (length l.receivers.items ≡ l.k)
    × ((g.D.Dock.known l.dock).faults ≡ (g.D.Dock.known l.fn.dock).faults)
    × KnownThrough (g.D.Dock.known l.fn.dock) (g.D.Dock.known l.dock) (Opened l.addresses l.k)
    × ((k : ℕ) (d : Receiver g.row.D-L.Denot) → k < l.k → IsReceiver l.rules (k + 1) (slice_index_or l.receivers.items k d))
    × ((k : ℕ) (d : Receiver g.row.D-L.Denot) → k < l.k → (at : Address)
    → DockKnownThrough (g.D.Dock.known l.fn.dock) (g.D.Dock.known l.dock) (λ contents. HasLink g.D.L.Link.known contents k (slice_index_or l.addresses k at) (slice_index_or l.receivers.items k d).link))
    × (length l.addresses ≤ vec_capacity l.receivers)
