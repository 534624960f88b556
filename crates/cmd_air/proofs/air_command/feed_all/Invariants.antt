use Rattle.std.proofs.Common.{◌≡◌, ℕ, ◌<◌, List, vec_len, slice_index_or, length}
use Rattle.drm_links.specs.MemoryLink.{LinkState}
use Rattle.plan_script.specs.declared.delivery.Delivery.{Delivery}
use Rattle.recv_report.specs.declared.receiver.Receiver.{Receiver}
use Rattle.cmd_air.specs.Air.{air_rules}
use Rattle.recv_report.specs.Receivers.{AreReceivers}
use Rattle.cmd_air.specs.Feeds.{BringsFeed}
use Rattle.cmd_air.proofs.air_command.feed_all.Given as goal

-- each receiver so far has a link that brings its feed
abbrev pub invariant-loop-k : goal.invariant-loop-k
invariant-loop-k l =
    (vec_len l.receivers ≡ l.k) × (length l.receivers.items ≡ l.k) × (l.server.base ≡ l.plan)
    × AreReceivers (air_rules l.plan l.window) l.k l.receivers.items
    × ((k : ℕ) (none : Receiver LinkState) → k < l.k → (feed : List Delivery)
    → BringsFeed l.plan (slice_index_or l.script k feed) (slice_index_or l.receivers.items k none).link)
    × (l.server.plan ≡ l.server.base)
