use Rattle.cmd_receive.proofs.receive_command.open_one.Goals as goal

pub returns-in-Link-clause-receiver : goal.returns-in-Link-clause-receiver
returns-in-Link-clause-receiver g c = c.seated.ensures.receiver c.args.rules.now c.args.feed c.in_ok-seat.ensures
