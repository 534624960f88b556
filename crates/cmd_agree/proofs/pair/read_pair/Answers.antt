use Rattle.std.proofs.Common.{◌∙◌, ap, Err}
use Rattle.std.proofs.lemmas.Result.{err_from_is_err_and}
use Rattle.cmd_agree.proofs.PairLemmas.{first_fails, second_fails}
use Rattle.cmd_agree.proofs.pair.read_pair.Goals as goal

pub returns-in_err-first-clause-reads : goal.returns-in_err-first-clause-reads
returns-in_err-first-clause-reads g c =
    let p = err_from_is_err_and c.from_residual.result c.from_residual.ensures.1 in
    rw (p.1 ∙ ap Err p.2)
    (first_fails c.args.name.now c.args.other.now c.in_err-first.field-0.0 (g.S.Shelf.known c.args.shelf.now) (g.S.Shelf.known c.read_schedule.new.shelf) c.in_err-first.ensures.reads)

pub returns-in_err-second-clause-reads : goal.returns-in_err-second-clause-reads
returns-in_err-second-clause-reads g c =
    let p = err_from_is_err_and c.from_residual-in_err-second.result c.from_residual-in_err-second.ensures.1 in
    rw (p.1 ∙ ap Err p.2)
    (second_fails c.args.name.now c.args.other.now c.in_ok-first.first c.in_err-second.field-0.0 (g.S.Shelf.known c.args.shelf.now) (g.S.Shelf.known c.read_schedule.new.shelf) (g.S.Shelf.known c.read_schedule-2.new.shelf)
    c.in_ok-first.ensures.reads c.in_err-second.ensures.reads)
