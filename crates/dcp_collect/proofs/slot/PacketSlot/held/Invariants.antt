use Rattle.std.proofs.Common.{◌≡◌, ◌+◌, ◌*◌, ◌/◌, ◌≤◌, drop}
use Rattle.dcp_collect.proofs.SlotHeld.{lens_from}
use Rattle.dcp_collect.specs.Sizes.{most_bytes}
use Rattle.dcp_collect.proofs.slot.PacketSlot.held.Given as goal

-- the bytes so far and those to come are all
abbrev pub invariant-loop-index : goal.invariant-loop-index
invariant-loop-index l = record {
  sum : l.sum + lens_from l.self.form l.index (drop l.index l.self.kept.items) ≡ lens_from l.self.form 0 l.self.kept.items;
  small : l.sum ≤ l.index * (most_bytes / l.self.form.count);
}
