use Rattle.std.proofs.Common.{◌∙◌, ap, Err, refl}
use Rattle.std.proofs.lemmas.Result.{err_from_is_err_and}
use Rattle.cmd_show.proofs.FacLemmas.{run_stopped, run_cut, run_done, run_ends}
use Rattle.cmd_show.proofs.fac_command.fac.Goals as goal

pub returns-in_err-fac : goal.returns-in_err-fac
returns-in_err-fac g c =
    let p = err_from_is_err_and c.from_residual.result c.from_residual.ensures.1 in
    let run = run_stopped c.in_err-fac.field-0.0 c.from_residual.result g.I.Source.known c.args.input.now c.read_fac.new.input g.O.Sink.known c.args.out.now
    (p.1 ∙ ap Err p.2) c.in_err-fac.ensures.reads c.in_err-fac.ensures.cause in
    let ends = run_ends c.from_residual.result g.I.Source.known c.args.input.now c.read_fac.new.input g.O.Sink.known c.args.out.now c.args.out.now run in
    record { run = run; link = ends.2; words = ends.0; memory = ends.1 }

pub returns-in_err-write_fac : goal.returns-in_err-write_fac
returns-in_err-write_fac g c =
    let p = err_from_is_err_and c.from_residual-in_err-write_fac.result c.from_residual-in_err-write_fac.ensures.1 in
    let run = run_cut c.in_ok-fac.fac c.from_residual-in_err-write_fac.result g.I.Source.known c.args.input.now c.read_fac.new.input g.O.Sink.known c.args.out.now c.write_fac.new.out
    (p.1 ∙ ap Err p.2) c.in_ok-fac.ensures.reads (c.in_ok-fac.ensures.cause.same (λ failed. cc)) c.in_err-write_fac.ensures.front (c.in_err-write_fac.ensures.cause.once refl) in
    let ends = run_ends c.from_residual-in_err-write_fac.result g.I.Source.known c.args.input.now c.read_fac.new.input g.O.Sink.known c.args.out.now c.write_fac.new.out run in
    record { run = run; link = ends.2; words = ends.0; memory = ends.1 }

pub returns-clause-run : goal.returns-clause-run
returns-clause-run g c =
    run_done c.in_ok-fac.fac g.I.Source.known c.args.input.now c.read_fac.new.input g.O.Sink.known c.args.out.now c.write_fac.new.out c.in_ok-fac.ensures.reads (c.in_ok-fac.ensures.cause.same (λ failed. cc)) c.in_ok-write_fac.ensures.whole (c.in_ok-write_fac.ensures.cause.same (λ failed. cc))
