use Rattle.std.proofs.Common.{◌≡◌, ℕ, List, take}
use Rattle.law_delivery.specs.Sent.{AreSent}
use Rattle.cmd_air.specs.Air.{pairs_of}
use Rattle.cmd_air.proofs.FeedLemmas.{link_of}
use Rattle.cmd_air.proofs.air_command.link_for.Given as goal

-- the datagrams of the deliveries before this one were brought
abbrev pub invariant-loop-delivery : goal.invariant-loop-delivery
invariant-loop-delivery l =
    (datagrams : List (List ℕ)) × AreSent l.fn.server.base (pairs_of (take l.delivery-index l.deliveries)) datagrams
    × (l.link ≡ link_of datagrams) × (l.server.base ≡ l.fn.server.base) × (l.server.plan ≡ l.server.base)
