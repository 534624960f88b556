use Rattle.cmd_air.proofs.CountLemmas.{datagrams_counted}
use Rattle.cmd_air.proofs.air_command.datagrams_are_counted.Goals as goal

pub returns : goal.returns
returns c = datagrams_counted c.args.server.now.plan c.args.server.now.frame c.packet.result.now c.packet.ensures.packet c.packet.ensures.len
