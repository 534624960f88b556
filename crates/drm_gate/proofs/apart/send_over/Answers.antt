use Rattle.drm_gate.proofs.LendingLemmas.{is_there, up_then}
use Rattle.drm_gate.proofs.apart.send_over.Goals as goal

pub returns-clause-up : goal.returns-clause-up
returns-clause-up g c =
    let within = is_there c.args.to.now c.args.k c.requires.up in
    up_then g.K.Link.known c.args.to.now c.args.k c.args.bytes.now c.send_by.result c.send_by.new.member within c.requires.up c.send_by.ensures.up
