use Rattle.std.proofs.Common.{◌∙◌, ap, length, Err}
use Rattle.std.proofs.lemmas.Result.{err_from_is_err_and}
use Rattle.cmd_load.specs.Schedule.{with_files}
use Rattle.cmd_load.proofs.ScheduleLemmas.{files_next, files_fail}
use Rattle.cmd_load.proofs.schedule.read_files.Goals as goal

pub returns-in_err-bytes-clause-reads : goal.returns-in_err-bytes-clause-reads
returns-in_err-bytes-clause-reads g c =
    let p = err_from_is_err_and c.from_residual.result c.from_residual.ensures.1 in
    rw (p.1 ∙ ap Err p.2)
    (files_fail (with_files (length c.args.draft.files) 0 c.args.draft) c.files-files.result c.loop-k.k c.loop-k.draft c.file_line-line.result c.file_name.result.now c.in_err-bytes.field-0.0 (g.S.Shelf.known c.args.shelf.now) (g.S.Shelf.known c.loop-k.shelf) (g.S.Shelf.known c.load.new.shelf)
    c.loop-k-test.true c.file_line-line.ensures c.file_name.ensures c.loop-k.invariant.0 c.in_err-bytes.ensures.reads)

pub loop-k-preserved : goal.loop-k-preserved
loop-k-preserved g c = (
  files_next (with_files (length c.args.draft.files) 0 c.args.draft) c.files-files.result c.loop-k.k c.loop-k.draft c.attach.new.self c.file_line-line.result c.file_name.result.now c.in_ok-bytes.bytes (g.S.Shelf.known c.args.shelf.now) (g.S.Shelf.known c.loop-k.shelf) (g.S.Shelf.known c.load.new.shelf)
      c.loop-k-test.true c.file_line-line.ensures c.file_name.ensures c.attach.ensures c.loop-k.invariant.0 c.in_ok-bytes.ensures.reads,
  rw c.attach.ensures c.loop-k.invariant.1,
  c.in_ok-bytes.ensures.cause.same (λ failed. cc) ∙ c.loop-k.invariant.2,
)
