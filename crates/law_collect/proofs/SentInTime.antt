-- A packet that lost no more datagrams than it was cut for is made again.
use Rattle.std.proofs.Common.{ℕ, ◌≡◌, ◌+◌, ◌≤◌, Bool, true, List, length, Some, None, ap, ◌∙◌, arith}
use Rattle.std.specs.Prelude.{ℤ, pos, negsuc, ◌+ℤ◌}
use Rattle.dcp_pft.specs.Loss.{size, is_recoverable}
use Rattle.dcp_pft.proofs.Carried.{any_may_be_lost}
use Rattle.dcp_collect.specs.Runs.{Packet}
use Rattle.dcp_pft.specs.declared.carry.Carry.{Carry}
use Rattle.dcp_pft.specs.Carrying.{CarryFits, shape_under, losses}
use Rattle.law_collect.specs.Delivery.{IsPacketWith, AreSent, sequence_at, packet_at, got, item_by}
use Rattle.law_collect.specs.Laws.{InTime}
use Rattle.law_collect.proofs.SentCuts.{packet_long}

pub recoverable_by : (carry : Carry) (sequence : ℕ) (packet : List ℕ) (kept : ℕ → Bool) → CarryFits carry → IsPacketWith carry sequence packet
    → (shape_under carry (length packet)).count ≤ size (shape_under carry (length packet)).count kept + losses carry
    → is_recoverable (shape_under carry (length packet)) kept ≡ true
recoverable_by carry sequence packet kept carried is enough =
    any_may_be_lost carry (length packet) kept carried (omega (arith, packet_long is.af packet is.is_af)) is.small enough

-- a packet at a place has its sequence number
sent_at : (carry : Carry) (sequence0 : ℕ) (packets : List (List ℕ)) → AreSent carry sequence0 packets
    → (place : ℤ) (packet : List ℕ) → packet_at packets place ≡ Some packet → (sequence : ℕ) × IsPacketWith carry sequence packet
sent_at carry sequence0 packets sent (pos p) packet at = (sequence_at sequence0 p, sent.each p packet at)
sent_at carry sequence0 packets sent (negsuc p) packet at = absurd (let e : None ≡ Some packet = at in cc)

item_made : (carry : Carry) (packet : List ℕ) (q : ℕ) (kept : ℕ → Bool) → is_recoverable (shape_under carry (length packet)) kept ≡ true
    → item_by carry (Some packet) q kept ≡ Packet q packet
item_made carry packet q kept enough = rw enough

pub in_time : InTime
in_time carry sequence0 window packets first_packet pairs q packet sent at enough =
    let kept : ℕ → Bool = got window first_packet pairs q in
    let is = sent_at carry sequence0 packets sent (first_packet +ℤ pos q) packet at in
    ap (λ o. item_by carry o q kept) at
    ∙ item_made carry packet q kept (recoverable_by carry is.0 packet kept sent.carried is.1 enough)
