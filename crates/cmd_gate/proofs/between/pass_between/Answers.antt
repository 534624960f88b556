use Rattle.std.proofs.Common.{◌∙◌, [], Bool, List, ap, subst, length, true}
use Rattle.std.proofs.lemmas.List.{length-replicate}
use Rattle.drm_links.specs.History.{GroupTells}
use Rattle.recv_reading.specs.declared.options.ReceiveOptions.{ReceiveOptions}
use Rattle.drm_gate.specs.Gateway.{rules_of}
use Rattle.drm_gate.specs.Run.{GateRun}
use Rattle.drm_gate.proofs.EachLink.{relays_count}
use Rattle.cmd_gate.proofs.BetweenLemmas.{rules_same, ran}
use Rattle.cmd_gate.proofs.between.pass_between.Goals as goal

pub disband-requires : goal.disband-requires
disband-requires g c =
    let r = c.pass_over_group-ended.ensures in
    let u = g.D.G.Group.up c.in-Group.group in
    relays_count (rules_of c.args.gate.now.collector c.options.result) c.args.gate.now.carry (length u) r.answers [] [] r.fates u (g.D.G.Group.up c.pass_over_group-ended.new.group) r.events r.relays
    ∙ (ap (λ (l : List Bool). length l) c.in-Group.ensures.fresh.1 ∙ length-replicate (length c.args.to.now) true)

pub returns-in-Group-clause-passes_on : goal.returns-in-Group-clause-passes_on
returns-in-Group-clause-passes_on g c =
    let u = g.D.G.Group.up c.in-Group.group in
    let v = g.D.G.Group.up c.pass_over_group-ended.new.group in
    let k = g.D.G.Group.known c.in-Group.group in
    let k' = g.D.G.Group.known c.pass_over_group-ended.new.group in
    let same = rules_same c.args.gate.now.collector c.options.result c.args.rules.now c.requires.window c.requires.reach c.requires.first c.options.ensures in
    let run = subst (λ (r : ReceiveOptions). GateRun r c.args.gate.now.carry u v (λ events. GroupTells events k k') c.pass_over_group-ended.result) same c.pass_over_group-ended.ensures in
    rw c.passed.ensures
    (ran c.args.rules.now c.args.gate.now.carry c.args.from c.args.to.now c.pass_over_group-ended.result u v k k' (g.D.Dock.known c.args.dock.now) (g.D.Dock.known c.gather.new.self) (g.D.Dock.known c.disband.new.self)
    c.in-Group.ensures.fresh.0 c.in-Group.ensures.fresh.1 run c.in-Group.ensures.gathered c.disband.ensures.disbanded)
