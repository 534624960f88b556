use Rattle.std.proofs.Common.{sym, ◌∙◌}
use Rattle.dcp_sender.proofs.OverLinks.{whole_carried}
use Rattle.dcp_sender.proofs.sender.PacketSender.write.Goals as goal

pub returns-in-Plain-clause-written : goal.returns-in-Plain-clause-written
returns-in-Plain-clause-written g c =
    (c.args.packet.now, whole_carried c.args.self.now c.args.seq c.args.packet.now (sym c.self.view_is ∙ c.in-Plain.is), c.write_all.ensures)
