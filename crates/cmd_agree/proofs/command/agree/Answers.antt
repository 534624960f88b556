use Rattle.std.proofs.Common.{◌≡◌, ◌∙◌, ap, subst, sym, refl, Err}
use Rattle.std.proofs.lemmas.Result.{err_from_is_err_and}
use Rattle.drm_links.specs.Sink.{OutputsText, IsPrefix}
use Rattle.drm_links.proofs.KnownLemmas.{OutputsText-weaker, counts_as, counts_none}
use Rattle.cmd_load.specs.declared.loading.ScheduleFault.TheVariants as schedule
use Rattle.cmd_serve.proofs.ScheduleRunLemmas.{refused_run, cut_run, whole_run}
use Rattle.cmd_agree.specs.Reading.{both_named, AreSchedules}
use Rattle.cmd_agree.specs.Run.{IsAgreeLine, IsAgreeFront}
use Rattle.cmd_agree.proofs.PairLemmas.{pair_ran_out}
use Rattle.cmd_agree.proofs.command.agree.Goals as goal

pub returns-in_err-pair-clause-run : goal.returns-in_err-pair-clause-run
returns-in_err-pair-clause-run g c =
    let p = err_from_is_err_and c.from_residual.result c.from_residual.ensures.1 in
    rw (p.1 ∙ ap Err p.2)
    (refused_run (both_named c.args.name.now c.args.other.now) AreSchedules IsAgreeLine IsAgreeFront g.S.Shelf.known c.args.shelf.now c.read_pair.new.shelf g.O.Sink.known c.in_err-pair.field-0.0 c.args.out.now
    c.in_err-pair.ensures.reads (counts_as (λ is. ap Err is) (λ is. cc) c.in_err-pair.ensures.cause))

pub returns-in_err-line-clause-run : goal.returns-in_err-line-clause-run
returns-in_err-line-clause-run g c =
    let p = err_from_is_err_and c.from_residual-in_err-line.result c.from_residual-in_err-line.ensures.1 in
    rw (p.1 ∙ ap Err p.2)
    (refused_run (both_named c.args.name.now c.args.other.now) AreSchedules IsAgreeLine IsAgreeFront g.S.Shelf.known c.args.shelf.now c.read_pair.new.shelf g.O.Sink.known schedule.NoMemory c.args.out.now
    (pair_ran_out c.args.name.now c.args.other.now c.in_ok-pair.pair (g.S.Shelf.known c.args.shelf.now) (g.S.Shelf.known c.read_pair.new.shelf) c.in_ok-pair.ensures.reads)
    (counts_none (λ is. cc) (c.in_ok-pair.ensures.cause.same (λ is. cc))))

pub returns-in_err-write_all-clause-run : goal.returns-in_err-write_all-clause-run
returns-in_err-write_all-clause-run g c =
    let p = err_from_is_err_and c.from_residual-in_err-write_all.result c.from_residual-in_err-write_all.ensures.1 in
    let front : OutputsText (g.O.Sink.known c.args.out.now) (g.O.Sink.known c.write_all.new.out) (IsPrefix c.in_ok-line.line.items) = rw (← c.as_slice.ensures.value) c.in_err-write_all.ensures.front in
    rw (p.1 ∙ ap Err p.2)
    (cut_run (both_named c.args.name.now c.args.other.now) AreSchedules IsAgreeLine IsAgreeFront g.S.Shelf.known c.args.shelf.now c.read_pair.new.shelf g.O.Sink.known c.in_ok-pair.pair
    c.in_ok-pair.ensures.valid c.in_ok-pair.ensures.reads (c.in_ok-pair.ensures.cause.same (λ is. cc))
    c.args.out.now c.write_all.new.out
    (OutputsText-weaker (IsPrefix c.in_ok-line.line.items) (IsAgreeFront c.in_ok-pair.pair) (g.O.Sink.known c.args.out.now) (g.O.Sink.known c.write_all.new.out) front (λ text is. (c.in_ok-line.line.items, c.in_ok-line.ensures, is)))
    (c.in_err-write_all.ensures.cause.once refl))

pub returns-clause-run : goal.returns-clause-run
returns-clause-run g c =
    let whole : OutputsText (g.O.Sink.known c.args.out.now) (g.O.Sink.known c.write_all.new.out) (λ written. written ≡ c.in_ok-line.line.items) = rw (← c.as_slice.ensures.value) c.in_ok-write_all.ensures.whole in
    whole_run (both_named c.args.name.now c.args.other.now) AreSchedules IsAgreeLine IsAgreeFront g.S.Shelf.known c.args.shelf.now c.read_pair.new.shelf g.O.Sink.known c.in_ok-pair.pair
    c.in_ok-pair.ensures.valid c.in_ok-pair.ensures.reads (c.in_ok-pair.ensures.cause.same (λ is. cc))
    c.args.out.now c.write_all.new.out
    (OutputsText-weaker (λ written. written ≡ c.in_ok-line.line.items) (IsAgreeLine c.in_ok-pair.pair) (g.O.Sink.known c.args.out.now) (g.O.Sink.known c.write_all.new.out) whole (λ text is. subst (IsAgreeLine c.in_ok-pair.pair) (sym is) c.in_ok-line.ensures))
    (c.in_ok-write_all.ensures.cause.same (λ failed. cc))
