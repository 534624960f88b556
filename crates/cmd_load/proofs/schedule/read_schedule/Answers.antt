use Rattle.std.proofs.Common.{◌∙◌, ap, Err}
use Rattle.std.proofs.lemmas.Result.{err_from_is_err_and}
use Rattle.cmd_load.proofs.ScheduleLemmas.{text_fails, draft_fails, files_break}
use Rattle.cmd_load.proofs.schedule.read_schedule.Goals as goal

pub returns-in_err-text-clause-reads : goal.returns-in_err-text-clause-reads
returns-in_err-text-clause-reads g c =
    let p = err_from_is_err_and c.from_residual.result c.from_residual.ensures.1 in
    rw (p.1 ∙ ap Err p.2)
    (text_fails c.args.name.now c.in_err-text.field-0.0 (g.S.Shelf.known c.args.shelf.now) (g.S.Shelf.known c.load.new.shelf) c.in_err-text.ensures.reads)

pub returns-in_err-draft-clause-reads : goal.returns-in_err-draft-clause-reads
returns-in_err-draft-clause-reads g c =
    let p = err_from_is_err_and c.from_residual-in_err-draft.result c.from_residual-in_err-draft.ensures.1 in
    rw (p.1 ∙ ap Err p.2)
    (draft_fails c.args.name.now c.as_slice.result.now c.in_err-draft.field-0.0 (g.S.Shelf.known c.args.shelf.now) (g.S.Shelf.known c.load.new.shelf)
    (rw c.as_slice.ensures c.in_ok-text.ensures.reads) c.in_err-draft.ensures.gives)

pub returns-in_err-whole-clause-reads : goal.returns-in_err-whole-clause-reads
returns-in_err-whole-clause-reads g c =
    let p = err_from_is_err_and c.from_residual-in_err-whole.result c.from_residual-in_err-whole.ensures.1 in
    rw (p.1 ∙ ap Err p.2)
    (files_break c.args.name.now c.as_slice.result.now c.in_ok-draft.draft c.in_err-whole.field-0.0 (g.S.Shelf.known c.args.shelf.now) (g.S.Shelf.known c.load.new.shelf) (g.S.Shelf.known c.read_files.new.shelf)
    (rw c.as_slice.ensures c.in_ok-text.ensures.reads) c.in_ok-draft.ensures.gives c.in_err-whole.ensures.reads)
