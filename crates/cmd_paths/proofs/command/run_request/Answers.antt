use Rattle.std.proofs.Common.{◌∙◌, ap, refl, Ok, Err}
use Rattle.std.proofs.lemmas.Result.{err_from_is_err_and}
use Rattle.drm_links.proofs.KnownLemmas.{counts_one, counts_none}
use Rattle.cmd_paths.proofs.RunLemmas.{ended_early, ran_over, written, unfinished}
use Rattle.cmd_paths.proofs.command.run_request.Goals as goal

pub returns-in_err-ending : goal.returns-in_err-ending
returns-in_err-ending g c =
    let p = err_from_is_err_and c.from_residual.result c.from_residual.ensures.1 in
    rw (p.1 ∙ ap Err p.2)
    (ended_early c.args.request.now c.requires g.D.Dock.known c.args.dock.now c.run_links.new.dock g.O.Sink.known g.D.L.Link.known c.in_err-ending.field-0.0 c.args.out.now c.in_err-ending.ensures)

pub returns-in_err-write : goal.returns-in_err-write
returns-in_err-write g c =
    let p = err_from_is_err_and c.from_residual-in_err-write.result c.from_residual-in_err-write.ensures.1 in
    let report = c.in_ok-ending.ending in
    rw (p.1 ∙ ap Err p.2)
    (unfinished c.args.request.now c.requires g.D.Dock.known c.args.dock.now c.run_links.new.dock g.O.Sink.known g.D.L.Link.known (Ok report)
    (ran_over c.args.request.now g.D.L.Link.known report (g.D.Dock.known c.args.dock.now) (g.D.Dock.known c.run_links.new.dock) c.in_ok-ending.ensures)
    report refl c.args.out.now c.write.new.out c.in_err-write.ensures.front (counts_one refl (c.in_err-write.ensures.cause.once refl)))

pub returns : goal.returns
returns g c =
    let report = c.in_ok-ending.ending in
    written c.args.request.now c.requires g.D.Dock.known c.args.dock.now c.run_links.new.dock g.O.Sink.known g.D.L.Link.known (Ok report)
    (ran_over c.args.request.now g.D.L.Link.known report (g.D.Dock.known c.args.dock.now) (g.D.Dock.known c.run_links.new.dock) c.in_ok-ending.ensures)
    report refl c.args.out.now c.write.new.out c.in_ok-write.field-0 c.in_ok-write.ensures.clean c.in_ok-write.ensures.whole
    (counts_none (λ is. cc) (c.in_ok-write.ensures.cause.same (λ failed. cc)))
