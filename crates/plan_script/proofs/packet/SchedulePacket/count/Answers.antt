use Rattle.plan_script.proofs.PacketLemmas.{counted}
use Rattle.plan_script.proofs.packet.SchedulePacket.count.Goals as goal

pub returns : goal.returns
returns c = λ plan is. counted plan c.args.self.now _ is (c.datagrams.ensures plan.carry c.args.self.now.len is.cut)
