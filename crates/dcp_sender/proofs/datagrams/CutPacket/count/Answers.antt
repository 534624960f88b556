use Rattle.std.proofs.Common.{sym, take}
use Rattle.dcp_sender.proofs.Layouts.{length-chunks}
use Rattle.dcp_sender.proofs.datagrams.CutPacket.count.Goals as goal

pub returns-clause-number : goal.returns-clause-number
returns-clause-number c =
    let s = c.self.inside in
    rw (← c.self.view_is) (sym (length-chunks s.layout.longest s.layout.count (take s.layout.len s.room.items)))
