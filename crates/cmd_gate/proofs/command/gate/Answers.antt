use Rattle.std.proofs.Common.{sym, subst, ap, ◌∙◌, refl, Err}
use Rattle.std.proofs.lemmas.Result.{err_from_is_err_and}
use Rattle.dcp_pft.specs.declared.carry.Carry.{Carry}
use Rattle.drm_links.specs.Known.{KnownThrough}
use Rattle.cmd_faults.specs.declared.fault.Fault.TheVariants as faults
use Rattle.drm_gate.specs.Gateway.{Gateway}
use Rattle.cmd_gate.specs.Between.{RelaysOverLinks}
use Rattle.cmd_gate.specs.Run.{GateCommandRun}
use Rattle.cmd_gate.proofs.RunLemmas.{no_run, links_run}
use Rattle.cmd_gate.proofs.command.gate.Goals as goal

pub returns-in_err-passed : goal.returns-in_err-passed
returns-in_err-passed g c =
    let p = err_from_is_err_and c.from_residual-in_err-passed.result c.from_residual-in_err-passed.ensures.1 in
    let run = no_run c.args.rules.now c.args.carry c.args.from c.args.to.now c.requires.listed (Err faults.NoMemory) g.O.Sink.known c.args.out.now c.args.out.now g.D.Dock.known c.args.dock.now refl in
    rw (p.1 ∙ ap Err p.2)
    (subst (λ d. GateCommandRun c.args.rules.now c.args.carry c.args.from c.args.to.now (Err faults.NoMemory) g.D.Dock.known c.args.dock.now d g.O.Sink.known c.args.out.now c.args.out.now) (sym (c.in_err-passed.ensures.untouched refl)) run)

pub returns : goal.returns
returns g c =
    let carry = ap (λ (v : Gateway). v.carry) c.in_ok-gate.ensures in
    let passed = c.in_ok-passed in
    let contents = subst (λ (k : Carry). KnownThrough (g.D.Dock.known c.args.dock.now) (g.D.Dock.known c.pass_between.new.dock) (RelaysOverLinks c.args.rules.now k c.args.from c.args.to.now passed.passed)) carry passed.ensures.passes_on in
    links_run c.args.rules.now c.args.carry c.args.from c.args.to.now c.requires.listed c.write_passed.result g.O.Sink.known c.args.out.now c.write_passed.new.out g.D.Dock.known c.args.dock.now c.pass_between.new.dock
    passed.passed contents c.write_passed.ensures.writes passed.ensures.cause c.write_passed.ensures.cause
