use Rattle.std.proofs.Common.{sym, ap, ◌∙◌, take, arith}
use Rattle.std.proofs.lemmas.List.{length-take}
use Rattle.dcp_sender.proofs.Layouts.{concat-chunks}
use Rattle.dcp_sender.proofs.datagrams.CutPacket.bytes.Goals as goal

pub returns-clause-bytes : goal.returns-clause-bytes
returns-clause-bytes c =
    let s = c.self.inside in
    let whole = concat-chunks s.layout.longest s.layout.count (take s.layout.len s.room.items) (omega (arith, length-take s.layout.len s.room.items, c.self.invariant.0.all)) in
    rw (← c.self.view_is) (ap (take s.layout.len) c.deref.ensures.value ∙ sym whole)
