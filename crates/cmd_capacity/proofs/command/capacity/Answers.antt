use Rattle.std.proofs.Common.{◌≡◌, ◌∙◌, ap, refl, Err}
use Rattle.std.proofs.lemmas.Result.{err_from_is_err_and}
use Rattle.drm_links.specs.Sink.{OutputsText, IsPrefix}
use Rattle.drm_links.proofs.KnownLemmas.{counts_none, counts_as}
use Rattle.cmd_load.specs.declared.loading.ScheduleFault.TheVariants as schedule
use Rattle.cmd_load.proofs.ScheduleLemmas.{schedule_ran_out}
use Rattle.cmd_capacity.specs.Report.{report}
use Rattle.cmd_capacity.proofs.RunLemmas.{refused_run, cut_run, whole_run}
use Rattle.cmd_capacity.proofs.command.capacity.Goals as goal

pub returns-in_err-schedule-clause-run : goal.returns-in_err-schedule-clause-run
returns-in_err-schedule-clause-run g c =
    let p = err_from_is_err_and c.from_residual.result c.from_residual.ensures.1 in
    rw (p.1 ∙ ap Err p.2)
    (refused_run c.args.name.now g.S.Shelf.known c.args.shelf.now c.read_schedule.new.shelf g.O.Sink.known c.in_err-schedule.field-0.0 c.args.out.now c.in_err-schedule.ensures.reads
    (counts_as (λ is. ap Err is) (λ is. cc) c.in_err-schedule.ensures.cause))

pub returns-in_err-text-clause-run : goal.returns-in_err-text-clause-run
returns-in_err-text-clause-run g c =
    let p = err_from_is_err_and c.from_residual-in_err-text.result c.from_residual-in_err-text.ensures.1 in
    rw (p.1 ∙ ap Err p.2)
    (refused_run c.args.name.now g.S.Shelf.known c.args.shelf.now c.read_schedule.new.shelf g.O.Sink.known schedule.NoMemory c.args.out.now
    (schedule_ran_out c.args.name.now c.in_ok-schedule.schedule (g.S.Shelf.known c.args.shelf.now) (g.S.Shelf.known c.read_schedule.new.shelf) c.in_ok-schedule.ensures.reads) (counts_none (λ is. cc) (c.in_ok-schedule.ensures.cause.same (λ is. cc))))

pub returns-in_err-write_all-clause-run : goal.returns-in_err-write_all-clause-run
returns-in_err-write_all-clause-run g c =
    let p = err_from_is_err_and c.from_residual-in_err-write_all.result c.from_residual-in_err-write_all.ensures.1 in
    let text_is : c.in_ok-text.text.items ≡ report c.in_ok-schedule.schedule = c.in_ok-text.ensures in
    let front : OutputsText (g.O.Sink.known c.args.out.now) (g.O.Sink.known c.write_all.new.out) (IsPrefix (report c.in_ok-schedule.schedule)) = rw (← text_is, ← c.as_slice.ensures.value) c.in_err-write_all.ensures.front in
    rw (p.1 ∙ ap Err p.2)
    (cut_run c.args.name.now g.S.Shelf.known c.args.shelf.now c.read_schedule.new.shelf g.O.Sink.known c.in_ok-schedule.schedule
    (rw (← c.schedule.view_is) c.schedule.invariant) c.in_ok-schedule.ensures.reads (c.in_ok-schedule.ensures.cause.same (λ is. cc))
    c.args.out.now c.write_all.new.out front (c.in_err-write_all.ensures.cause.once refl))

pub returns-clause-run : goal.returns-clause-run
returns-clause-run g c =
    let text_is : c.in_ok-text.text.items ≡ report c.in_ok-schedule.schedule = c.in_ok-text.ensures in
    let all : OutputsText (g.O.Sink.known c.args.out.now) (g.O.Sink.known c.write_all.new.out) (λ written. written ≡ report c.in_ok-schedule.schedule) = rw (← text_is, ← c.as_slice.ensures.value) c.in_ok-write_all.ensures.whole in
    rw c.all_fit.ensures
    (whole_run c.args.name.now g.S.Shelf.known c.args.shelf.now c.read_schedule.new.shelf g.O.Sink.known c.in_ok-schedule.schedule
    (rw (← c.schedule.view_is) c.schedule.invariant) c.in_ok-schedule.ensures.reads (c.in_ok-schedule.ensures.cause.same (λ is. cc))
    c.args.out.now c.write_all.new.out all (c.in_ok-write_all.ensures.cause.same (λ failed. cc)))
