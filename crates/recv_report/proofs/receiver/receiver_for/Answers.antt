use Rattle.recv_report.proofs.receiver.receiver_for.Goals as goal

pub returns-clause-receiver : goal.returns-clause-receiver
returns-clause-receiver g c = c.seated.ensures.receiver c.args.rules.now c.args.feed c.in_ok-seat.ensures
