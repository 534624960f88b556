-- The links of the feeds of a script.
use Rattle.std.specs.Prelude.{ℕ, ◌≡◌, ◌<◌, List, map, length, slice_index_or, Some}
use Rattle.drm_schedule.specs.declared.plan.Plan.{Plan}
use Rattle.plan_script.specs.declared.delivery.Delivery.{Delivery}
use Rattle.drm_links.specs.Link.{Datagram}
use Rattle.drm_links.specs.Dock.{first_traffic}
use Rattle.drm_links.specs.MemoryLink.{LinkState, link_known}
use Rattle.law_delivery.specs.Sent.{AreSent}
use Rattle.recv_report.specs.declared.receiver.Receiver.{Receiver}
use Rattle.cmd_air.specs.Air.{pairs_of}

-- The link brings the datagrams of these deliveries, and is to fail nowhere.
pub record BringsFeed (plan : Plan) (deliveries : List Delivery) (link : LinkState) : Type 0 where
  pub datagrams : List (List ℕ)
  pub sent : AreSent plan (pairs_of deliveries) datagrams
  pub contents : (link_known link).contents ≡ Some (first_traffic (record { ahead = map Datagram datagrams; sends = Some 0 }))

-- each receiver's link brings its feed
abbrev pub BringFeeds : Plan → List (List Delivery) → List (Receiver LinkState) → Type 0
BringFeeds plan feeds receivers =
    (k : ℕ) (feed : List Delivery) (none : Receiver LinkState) → k < length feeds
    → BringsFeed plan (slice_index_or feeds k feed) (slice_index_or receivers k none).link
