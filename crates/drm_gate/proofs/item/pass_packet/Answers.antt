use Rattle.std.proofs.Common.{refl, sym, ◌∙◌}
use Rattle.dcp_collect.specs.Runs.{Packet}
use Rattle.drm_gate.specs.Passing.{Bad, Large}
use Rattle.drm_gate.proofs.Tallying.{one_bad, one_large, one_given}
use Rattle.drm_gate.proofs.ItemLemmas.{unsent, sent_packet}
use Rattle.drm_gate.proofs.item.pass_packet.Goals as goal

pub returns-then-not-is_af-clause-one : goal.returns-then-not-is_af-clause-one
returns-then-not-is_af-clause-one g c =
    unsent c.args.sender.now c.args.first (Packet c.args.index c.args.bytes.now) Bad c.args.tally.now _ (g.O.Outlets.up c.args.outlets.now) (λ events. g.O.Outlets.happened events c.args.outlets.now c.args.outlets.now)
    (c.is_af.ensures.no c.if-not-is_af.true) refl (one_bad c.args.tally.now) (g.met.O.Outlets.nothing c.args.outlets.now)

pub returns-then-is_large-clause-one : goal.returns-then-is_large-clause-one
returns-then-is_large-clause-one g c =
    unsent c.args.sender.now c.args.first (Packet c.args.index c.args.bytes.now) Large c.args.tally.now _ (g.O.Outlets.up c.args.outlets.now) (λ events. g.O.Outlets.happened events c.args.outlets.now c.args.outlets.now)
    (c.is_af.ensures.yes c.if-not-is_af.false, sym c.is_large.ensures ∙ c.if-is_large.true) refl (one_large c.args.tally.now) (g.met.O.Outlets.nothing c.args.outlets.now)

pub returns-clause-one : goal.returns-clause-one
returns-clause-one g c =
    sent_packet c.args.sender.now c.args.first c.args.index c.sequence.result c.send-sent.result c.args.bytes.now c.args.tally.now _
    (g.O.Outlets.up c.args.outlets.now) (g.O.Outlets.up c.send-sent.new.outlets) (λ events. g.O.Outlets.happened events c.args.outlets.now c.send-sent.new.outlets)
    (c.is_af.ensures.yes c.if-not-is_af.false) (sym c.is_large.ensures ∙ c.if-is_large.false) c.sequence.ensures c.send-sent.ensures.made c.send-sent.ensures.within_limit
    (λ datagrams many. one_given c.args.tally.now c.send-sent.result datagrams many)
