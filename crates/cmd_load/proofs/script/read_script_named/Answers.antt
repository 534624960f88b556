use Rattle.std.proofs.Common.{◌∙◌, ap, Ok, Err}
use Rattle.std.proofs.lemmas.Result.{err_from_is_err_and}
use Rattle.cmd_load.proofs.ScriptLemmas.{script_comes}
use Rattle.cmd_load.proofs.script.read_script_named.Goals as goal

pub returns-in_err-read_script-clause-reads : goal.returns-in_err-read_script-clause-reads
returns-in_err-read_script-clause-reads g c =
    let p = err_from_is_err_and c.from_residual-in_err-read_script.result c.from_residual-in_err-read_script.ensures.1 in
    rw (p.1 ∙ ap Err p.2)
    (script_comes (Err c.in_err-read_script.field-0.0) c.args.plan.now c.args.name.now c.as_slice.result.now (g.S.Shelf.known c.args.shelf.now) (g.S.Shelf.known c.load.new.shelf)
    (rw c.as_slice.ensures c.in_ok-text.ensures.reads) c.in_err-read_script.ensures.read)

pub returns-clause-reads : goal.returns-clause-reads
returns-clause-reads g c =
    script_comes (Ok c.in_ok-read_script.field-0) c.args.plan.now c.args.name.now c.as_slice.result.now (g.S.Shelf.known c.args.shelf.now) (g.S.Shelf.known c.load.new.shelf)
    (rw c.as_slice.ensures c.in_ok-text.ensures.reads) c.in_ok-read_script.ensures.read
