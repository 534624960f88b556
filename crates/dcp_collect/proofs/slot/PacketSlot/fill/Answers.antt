use Rattle.std.proofs.Common.{◌∙◌, ap₂, arith}
use Rattle.dcp_collect.specs.CollectorState.{insert_kept}
use Rattle.dcp_collect.specs.Slots.{fragment_at}
use Rattle.dcp_collect.proofs.SlotViews.{none_marked}
use Rattle.dcp_collect.proofs.slot.PacketSlot.fill.Goals as goal

pub returns-clause-kept : goal.returns-clause-kept
returns-clause-kept c =
    let s = c.begin.new.self in
    c.keep.ensures.kept
    ∙ ap₂ (λ n fs. insert_kept (record { number = n; head = c.args.head; payload = c.args.payload.now }) fs) c.begin.ensures.number
    (none_marked (fragment_at s.number s.form s.bytes.items) 0 s.kept.items c.begin.ensures.none)

pub returns-clause-used : goal.returns-clause-used
returns-clause-used c = record {
  filled = c.keep.ensures.filled;
  first = c.args.head.index;
  marked = c.keep.ensures.marked;
  small = (let e = c.keep.ensures.number ∙ c.begin.ensures.number in let l = c.requires.number in omega (arith, e, l));
}
