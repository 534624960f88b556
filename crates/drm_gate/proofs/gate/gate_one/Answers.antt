use Rattle.std.proofs.Common.{sym}
use Rattle.drm_gate.specs.Gateway.{rules_of}
use Rattle.drm_gate.specs.Apart.{LinksTell, ups_of}
use Rattle.drm_gate.proofs.CauseLemmas.{cause_of, run_weaker}
use Rattle.drm_gate.proofs.LendingLemmas.{all_up}
use Rattle.drm_gate.proofs.gate.gate_one.Goals as goal

pub pass_on-requires-clause-up : goal.pass_on-requires-clause-up
pass_on-requires-clause-up g c = all_up c.args.to.now c.requires.up

pub returns-clause-ended : goal.returns-clause-ended
returns-clause-ended g c =
    let h = c.pass_on.ensures.happened in
    rw (← c.gate.view_is, c.from-1.given.1 (sym h.0), c.to-1.given.1.1 (sym h.1))
    (run_weaker (rules_of c.gate.inside.collector c.args.options.now) c.gate.inside.sender (ups_of c.args.to.now) (ups_of c.pass_on.new.relay.to.now) _
    (LinksTell (g.L.Link.known c.args.from.now) (g.L.Link.known c.pass_on.new.relay.from.now) g.K.Link.known c.args.to.now c.pass_on.new.relay.to.now) c.pass_on.result (λ events happened. happened.2) c.pass_on.ensures)

pub returns-clause-cause : goal.returns-clause-cause
returns-clause-cause g c =
    let h = c.pass_on.ensures.happened in
    rw (c.from-1.given.1 (sym h.0))
    (cause_of (rules_of c.gate.inside.collector c.args.options.now) c.gate.inside.sender (ups_of c.args.to.now) (ups_of c.pass_on.new.relay.to.now) _ c.pass_on.result
    (g.L.Link.known c.args.from.now) (g.L.Link.known c.pass_on.new.relay.from.now) c.pass_on.ensures h.2.source.faults)
