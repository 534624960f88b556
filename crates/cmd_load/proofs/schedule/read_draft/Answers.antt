use Rattle.std.proofs.Common.{◌∙◌, ap, Ok, Err}
use Rattle.std.proofs.lemmas.Result.{err_from_is_err_and}
use Rattle.drm_plan.specs.Text.{draft_of}
use Rattle.cmd_load.proofs.ScheduleLemmas.{draft_given}
use Rattle.cmd_load.proofs.schedule.read_draft.Goals as goal

pub returns-in_err-read_plan-clause-gives : goal.returns-in_err-read_plan-clause-gives
returns-in_err-read_plan-clause-gives c =
    let p = err_from_is_err_and c.from_residual.result c.from_residual.ensures.1 in
    rw (p.1 ∙ ap Err p.2) (draft_given (Err c.in_err-read_plan.field-0.0) (draft_of c.args.text.now) c.in_err-read_plan.ensures.read)

pub returns-clause-gives : goal.returns-clause-gives
returns-clause-gives c = draft_given (Ok c.in_ok-read_plan.field-0) (draft_of c.args.text.now) c.in_ok-read_plan.ensures.read
