use Rattle.std.proofs.Common.{◌≡◌, drop}
use Rattle.dcp_collect.specs.Slots.{head_at, odd_from}
use Rattle.dcp_collect.proofs.slot.PacketSlot.first_odd.Given as goal

-- none of those so far disagrees
abbrev pub invariant-loop-index : goal.invariant-loop-index
invariant-loop-index l =
    odd_from (head_at l.self.form) l.index (drop l.index l.self.kept.items) l.head ≡ odd_from (head_at l.self.form) 0 l.self.kept.items l.head
