use Rattle.std.proofs.Common.{◌≡◌, ◌∙◌, ap, subst, refl, sym, Err}
use Rattle.std.proofs.lemmas.Result.{err_from_is_err_and}
use Rattle.drm_links.proofs.KnownLemmas.{counts_as, counts_none}
use Rattle.drm_schedule.specs.declared.plan.Plan.{Plan}
use Rattle.drm_schedule.specs.Valid.{IsSchedule}
use Rattle.drm_server.specs.ServerState.{ServerState}
use Rattle.cmd_load.specs.declared.loading.ScheduleFault.TheVariants as schedule
use Rattle.cmd_load.proofs.ScheduleLemmas.{schedule_ran_out}
use Rattle.live_server.specs.Capture.{WroteLive}
use Rattle.cmd_serve.proofs.LiveServeLemmas.{live_refused, live_served, served_read}
use Rattle.cmd_serve.proofs.serve_command.serve.Goals as goal

pub returns-in_err-schedule-clause-run : goal.returns-in_err-schedule-clause-run
returns-in_err-schedule-clause-run g c =
    let p = err_from_is_err_and c.from_residual.result c.from_residual.ensures.1 in
    rw (p.1 ∙ ap Err p.2)
    (live_refused c.args.name.now c.args.stretch c.args.live.now g.S.Shelf.known c.args.shelf.now c.read_schedule.new.shelf g.I.Source.known g.O.Sink.known c.in_err-schedule.field-0.0 c.args.input.now c.args.out.now
    c.in_err-schedule.ensures.reads (counts_as (λ is. ap Err is) (λ is. cc) c.in_err-schedule.ensures.cause))

pub returns-in_err-server-clause-run : goal.returns-in_err-server-clause-run
returns-in_err-server-clause-run g c =
    let p = err_from_is_err_and c.from_residual-in_err-server.result c.from_residual-in_err-server.ensures.1 in
    rw (p.1 ∙ ap Err p.2)
    (live_refused c.args.name.now c.args.stretch c.args.live.now g.S.Shelf.known c.args.shelf.now c.read_schedule.new.shelf g.I.Source.known g.O.Sink.known schedule.NoMemory c.args.input.now c.args.out.now
    (schedule_ran_out c.args.name.now c.in_ok-schedule.schedule (g.S.Shelf.known c.args.shelf.now) (g.S.Shelf.known c.read_schedule.new.shelf) c.in_ok-schedule.ensures.reads) (counts_none (λ is. cc) (c.in_ok-schedule.ensures.cause.same (λ is. cc))))

pub returns-in_err-scratch-clause-run : goal.returns-in_err-scratch-clause-run
returns-in_err-scratch-clause-run g c =
    let p = err_from_is_err_and c.from_residual-in_err-scratch.result c.from_residual-in_err-scratch.ensures.1 in
    rw (p.1 ∙ ap Err p.2)
    (live_refused c.args.name.now c.args.stretch c.args.live.now g.S.Shelf.known c.args.shelf.now c.read_schedule.new.shelf g.I.Source.known g.O.Sink.known schedule.NoMemory c.args.input.now c.args.out.now
    (schedule_ran_out c.args.name.now c.in_ok-schedule.schedule (g.S.Shelf.known c.args.shelf.now) (g.S.Shelf.known c.read_schedule.new.shelf) c.in_ok-schedule.ensures.reads) (counts_none (λ is. cc) (c.in_ok-schedule.ensures.cause.same (λ is. cc))))

pub returns-clause-run : goal.returns-clause-run
returns-clause-run g c =
    let plan : Plan = c.in_ok-schedule.schedule in
    let same : c.in_ok-server.server.base ≡ plan = ap (λ (s : ServerState). s.base) c.in_ok-server.ensures in
    let valid : IsSchedule plan = rw (← c.schedule.view_is) c.schedule.invariant in
    let served = c.serve_live_sink in
    live_served c.args.name.now c.args.stretch c.args.live.now g.S.Shelf.known c.args.shelf.now c.read_schedule.new.shelf g.I.Source.known g.O.Sink.known c.input_makes_a_schedule.ensures plan valid
    c.in_ok-schedule.ensures.reads (c.in_ok-schedule.ensures.cause.same (λ is. cc)) c.args.input.now served.new.input c.args.out.now served.new.out served.result served.ensures.read served.ensures.write
    (subst (λ p. WroteLive c.args.live.now p c.args.stretch served.result (g.I.Source.known c.args.input.now) (g.I.Source.known served.new.input) (g.O.Sink.known c.args.out.now) (g.O.Sink.known served.new.out)) same served.ensures.wrote)

pub returns-in_err-schedule-clause-read : goal.returns-in_err-schedule-clause-read
returns-in_err-schedule-clause-read g c =
    served_read c.args.name.now c.args.stretch c.args.live.now c.from_residual.result g.S.Shelf.known c.args.shelf.now c.read_schedule.new.shelf g.I.Source.known c.args.input.now c.args.input.now g.O.Sink.known c.args.out.now c.args.out.now
    (returns-in_err-schedule-clause-run g c)

pub returns-in_err-server-clause-read : goal.returns-in_err-server-clause-read
returns-in_err-server-clause-read g c =
    served_read c.args.name.now c.args.stretch c.args.live.now c.from_residual-in_err-server.result g.S.Shelf.known c.args.shelf.now c.read_schedule.new.shelf g.I.Source.known c.args.input.now c.args.input.now g.O.Sink.known c.args.out.now c.args.out.now
    (returns-in_err-server-clause-run g c)

pub returns-in_err-scratch-clause-read : goal.returns-in_err-scratch-clause-read
returns-in_err-scratch-clause-read g c =
    served_read c.args.name.now c.args.stretch c.args.live.now c.from_residual-in_err-scratch.result g.S.Shelf.known c.args.shelf.now c.read_schedule.new.shelf g.I.Source.known c.args.input.now c.args.input.now g.O.Sink.known c.args.out.now c.args.out.now
    (returns-in_err-scratch-clause-run g c)

pub returns-clause-read : goal.returns-clause-read
returns-clause-read g c =
    let served = c.serve_live_sink in
    served_read c.args.name.now c.args.stretch c.args.live.now served.result g.S.Shelf.known c.args.shelf.now c.read_schedule.new.shelf g.I.Source.known c.args.input.now served.new.input g.O.Sink.known c.args.out.now served.new.out
    (returns-clause-run g c)

pub returns-in_err-schedule-clause-nothing : goal.returns-in_err-schedule-clause-nothing
returns-in_err-schedule-clause-nothing g c = λ none.
    let p = err_from_is_err_and c.from_residual.result c.from_residual.ensures.1 in
    (refl, λ whole is. absurd (let e = sym p.1 ∙ is in cc))

pub returns-in_err-server-clause-nothing : goal.returns-in_err-server-clause-nothing
returns-in_err-server-clause-nothing g c = λ none.
    let p = err_from_is_err_and c.from_residual-in_err-server.result c.from_residual-in_err-server.ensures.1 in
    (refl, λ whole is. absurd (let e = sym p.1 ∙ is in cc))

pub returns-in_err-scratch-clause-nothing : goal.returns-in_err-scratch-clause-nothing
returns-in_err-scratch-clause-nothing g c = λ none.
    let p = err_from_is_err_and c.from_residual-in_err-scratch.result c.from_residual-in_err-scratch.ensures.1 in
    (refl, λ whole is. absurd (let e = sym p.1 ∙ is in cc))
