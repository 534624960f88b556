use Rattle.std.proofs.Common.{◌≡◌, ◌≤◌, List, length, drop}
use Rattle.std.specs.Vec.Iter.{into_iter_items}
use Rattle.drm_links.specs.Known.{KnownThrough}
use Rattle.drm_links.specs.Dock.{Over}
use Rattle.drm_links.specs.Gathering.{after_closes}
use Rattle.drm_links.specs.Members.{HaveGone}
use Rattle.cmd_receive.specs.Opening.{members_of}
use Rattle.cmd_receive.proofs.receive_command.close_all.Given as goal

-- what the dock tells once the other links are closed, too
abbrev pub invariant-loop-receiver : goal.invariant-loop-receiver
invariant-loop-receiver g l =
    KnownThrough (g.D.Dock.known l.fn.dock) (g.D.Dock.known l.dock) (λ before after.
    (overs : List Over) → HaveGone g.D.L.Link.known (members_of l.fn.receivers.items) overs
    → after_closes (drop l.k overs) (drop l.k l.addresses) after ≡ after_closes overs l.addresses before)
    × (into_iter_items l.receiver-iterator ≡ drop l.k l.fn.receivers.items)
    × (l.k ≤ length l.fn.receivers.items)
    × ((g.D.Dock.known l.dock).faults ≡ (g.D.Dock.known l.fn.dock).faults)
