use Rattle.std.proofs.Common.{Err, ◌∙◌, ap}
use Rattle.std.proofs.lemmas.Result.{err_from_is_err_and}
use Rattle.cmd_show.proofs.ShowLemmas.{memory_run}
use Rattle.cmd_show.proofs.show_command.show.Goals as goal

pub returns-in_err-packets : goal.returns-in_err-packets
returns-in_err-packets g c =
    let p = err_from_is_err_and c.from_residual.result c.from_residual.ensures.1 in
    rw (p.1 ∙ ap Err p.2) (memory_run c.read_one_way.ensures c.one_text.ensures g.I.Source.known c.args.input.now g.O.Sink.known c.args.out.now)

pub returns-in_err-lines : goal.returns-in_err-lines
returns-in_err-lines g c =
    let p = err_from_is_err_and c.from_residual-in_err-lines.result c.from_residual-in_err-lines.ensures.1 in
    rw (p.1 ∙ ap Err p.2) (memory_run c.read_one_way.ensures c.one_text.ensures g.I.Source.known c.args.input.now g.O.Sink.known c.args.out.now)
