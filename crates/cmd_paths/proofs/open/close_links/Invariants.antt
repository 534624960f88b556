use Rattle.std.proofs.Common.{◌≡◌, ◌≤◌, true, ◌++◌, length, map, drop}
use Rattle.std.specs.Vec.Iter.{into_iter_items}
use Rattle.drm_links.specs.Known.{KnownThrough}
use Rattle.drm_links.proofs.CloseLemmas.{Closing}
use Rattle.drm_links.proofs.BindLemmas.{as_members}
use Rattle.cmd_paths.proofs.Opening.{itself}
use Rattle.cmd_paths.proofs.open.close_links.Given as goal

-- what the dock tells once the other links are closed, too; and the paths so far, where all found room
abbrev pub invariant-loop-receiver : goal.invariant-loop-receiver
invariant-loop-receiver g l =
    KnownThrough (g.D.Dock.known l.fn.dock) (g.D.Dock.known l.dock) (Closing g.D.L.Link.known (as_members itself (map (λ receiver. receiver.link) l.fn.receivers.items)) l.addresses l.k)
    × (into_iter_items l.receiver-iterator ≡ drop l.k l.fn.receivers.items)
    × (l.k ≤ length l.fn.receivers.items)
    × ((g.D.Dock.known l.dock).faults ≡ (g.D.Dock.known l.fn.dock).faults)
    × (l.fits ≡ true → l.paths ++ map (λ receiver. receiver.path) (into_iter_items l.receiver-iterator) ≡ map (λ receiver. receiver.path) l.fn.receivers.items)
