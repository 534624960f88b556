use Rattle.std.proofs.Common.{arith}
use Rattle.dcp_collect.proofs.SlotAnswers.{kept_is_new, form_of}
use Rattle.dcp_collect.proofs.slot.PacketSlot.keep_more.Goals as goal

pub keep-requires : goal.keep-requires
keep-requires c = record {
  filled = c.requires.used.filled;
  piece = c.requires.piece;
  form = form_of c.args.self.now c.args.head c.requires.used c.requires.answer;
  alike = (kept_is_new c.args.self.now c.args.head c.requires.answer).0;
  new = (kept_is_new c.args.self.now c.args.head c.requires.answer).1;
}

pub returns-clause-used : goal.returns-clause-used
returns-clause-used c = record {
  filled = c.keep.ensures.filled;
  first = c.args.head.index;
  marked = c.keep.ensures.marked;
  small = (let e = c.keep.ensures.number in let l = c.requires.used.small in omega (arith, e, l));
}
