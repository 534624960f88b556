use Rattle.plan_script.proofs.PacketLemmas.{sized}
use Rattle.plan_script.proofs.packet.SchedulePacket.size.Goals as goal

pub returns-clause-size : goal.returns-clause-size
returns-clause-size c = λ plan is. sized plan c.args.self.now c.args.i _ is (c.datagram_len.ensures.size plan.carry is.cut)
