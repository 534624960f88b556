use Rattle.std.proofs.Common.{◌≡◌, ◌∙◌, Err, refl, sym, ap, subst}
use Rattle.std.proofs.lemmas.Result.{err_from_is_err_and}
use Rattle.drm_links.proofs.KnownLemmas.{counts_as, counts_none}
use Rattle.drm_schedule.specs.declared.plan.Plan.{Plan}
use Rattle.drm_schedule.specs.Valid.{IsSchedule}
use Rattle.drm_server.specs.ServerState.{ServerState}
use Rattle.cmd_load.specs.declared.loading.ScheduleFault.TheVariants as schedule
use Rattle.cmd_load.proofs.ScheduleLemmas.{schedule_ran_out}
use Rattle.live_server.specs.Links.{ServedLive}
use Rattle.cmd_serve.proofs.OverGroupLemmas.{live_unsent, live_up, live_down, one_whole}
use Rattle.cmd_serve.proofs.serve_command.send_over.Goals as goal

pub returns-in_err-schedule-clause-run : goal.returns-in_err-schedule-clause-run
returns-in_err-schedule-clause-run g c =
    let p = err_from_is_err_and c.from_residual.result c.from_residual.ensures.1 in
    rw (p.1 ∙ ap Err p.2)
    (live_unsent c.args.name.now c.args.pace c.args.stretch c.args.live.now g.S.Shelf.known c.args.shelf.now c.read_schedule.new.shelf (g.G.Group.up c.args.group.now) (g.G.Group.known c.args.group.now)
    c.in_err-schedule.field-0.0 (g.I.Source.known c.args.input.now) c.requires.up
    c.in_err-schedule.ensures.reads (counts_as (λ is. ap Err is) (λ is. cc) c.in_err-schedule.ensures.cause))

pub returns-in_err-server-clause-run : goal.returns-in_err-server-clause-run
returns-in_err-server-clause-run g c =
    let p = err_from_is_err_and c.from_residual-in_err-server.result c.from_residual-in_err-server.ensures.1 in
    rw (p.1 ∙ ap Err p.2)
    (live_unsent c.args.name.now c.args.pace c.args.stretch c.args.live.now g.S.Shelf.known c.args.shelf.now c.read_schedule.new.shelf (g.G.Group.up c.args.group.now) (g.G.Group.known c.args.group.now)
    schedule.NoMemory (g.I.Source.known c.args.input.now) c.requires.up
    (schedule_ran_out c.args.name.now c.in_ok-schedule.schedule (g.S.Shelf.known c.args.shelf.now) (g.S.Shelf.known c.read_schedule.new.shelf) c.in_ok-schedule.ensures.reads) (counts_none (λ is. cc) (c.in_ok-schedule.ensures.cause.same (λ is. cc))))

pub returns-in_err-scratch-clause-run : goal.returns-in_err-scratch-clause-run
returns-in_err-scratch-clause-run g c =
    let p = err_from_is_err_and c.from_residual-in_err-scratch.result c.from_residual-in_err-scratch.ensures.1 in
    rw (p.1 ∙ ap Err p.2)
    (live_unsent c.args.name.now c.args.pace c.args.stretch c.args.live.now g.S.Shelf.known c.args.shelf.now c.read_schedule.new.shelf (g.G.Group.up c.args.group.now) (g.G.Group.known c.args.group.now)
    schedule.NoMemory (g.I.Source.known c.args.input.now) c.requires.up
    (schedule_ran_out c.args.name.now c.in_ok-schedule.schedule (g.S.Shelf.known c.args.shelf.now) (g.S.Shelf.known c.read_schedule.new.shelf) c.in_ok-schedule.ensures.reads) (counts_none (λ is. cc) (c.in_ok-schedule.ensures.cause.same (λ is. cc))))

pub returns-in_err-schedule-clause-nothing : goal.returns-in_err-schedule-clause-nothing
returns-in_err-schedule-clause-nothing g c = λ none.
    let p = err_from_is_err_and c.from_residual.result c.from_residual.ensures.1 in
    (refl, λ whole is. absurd (let e = sym p.1 ∙ is in cc))

pub returns-in_err-server-clause-nothing : goal.returns-in_err-server-clause-nothing
returns-in_err-server-clause-nothing g c = λ none.
    let p = err_from_is_err_and c.from_residual-in_err-server.result c.from_residual-in_err-server.ensures.1 in
    (refl, λ whole is. absurd (let e = sym p.1 ∙ is in cc))

pub returns-in_err-scratch-clause-nothing : goal.returns-in_err-scratch-clause-nothing
returns-in_err-scratch-clause-nothing g c = λ none.
    let p = err_from_is_err_and c.from_residual-in_err-scratch.result c.from_residual-in_err-scratch.ensures.1 in
    (refl, λ whole is. absurd (let e = sym p.1 ∙ is in cc))

pub returns-then-all_up-clause-run : goal.returns-then-all_up-clause-run
returns-then-all_up-clause-run g c =
    let plan : Plan = c.in_ok-schedule.schedule in
    let same : c.in_ok-server.server.base ≡ plan = ap (λ (s : ServerState). s.base) c.in_ok-server.ensures in
    let valid : IsSchedule plan = rw (← c.schedule.view_is) c.schedule.invariant in
    let u = g.G.Group.up c.args.group.now in
    let v = g.G.Group.up c.serve_live_links-sent.new.group in
    let x = g.G.Group.known c.args.group.now in
    let y = g.G.Group.known c.serve_live_links-sent.new.group in
    let a = g.I.Source.known c.args.input.now in
    let b = g.I.Source.known c.serve_live_links-sent.new.input in
    live_up c.args.name.now c.args.pace c.args.stretch c.args.live.now g.S.Shelf.known c.args.shelf.now c.read_schedule.new.shelf u x c.input_makes_a_schedule.ensures plan valid
    c.in_ok-schedule.ensures.reads (c.in_ok-schedule.ensures.cause.same (λ is. cc)) v y c.serve_live_links-sent.ensures.same_count a b c.serve_live_links-sent.result c.requires.at_least_one (c.all_up.ensures.yes c.if-all_up.true)
    c.serve_live_links-sent.ensures.fault c.serve_live_links-sent.ensures.cause
    (subst (λ p. ServedLive c.args.live.now p c.args.stretch c.args.pace c.serve_live_links-sent.result a b u v x y) same c.serve_live_links-sent.ensures.served)

pub returns-then-all_up-clause-nothing : goal.returns-then-all_up-clause-nothing
returns-then-all_up-clause-nothing g c = λ none.
    let n = c.serve_live_links-sent.ensures.nothing none in
    (n.0, λ whole is. one_whole whole (sym is ∙ n.1))

pub returns-clause-run : goal.returns-clause-run
returns-clause-run g c =
    let plan : Plan = c.in_ok-schedule.schedule in
    let same : c.in_ok-server.server.base ≡ plan = ap (λ (s : ServerState). s.base) c.in_ok-server.ensures in
    let valid : IsSchedule plan = rw (← c.schedule.view_is) c.schedule.invariant in
    let u = g.G.Group.up c.args.group.now in
    let v = g.G.Group.up c.serve_live_links-sent.new.group in
    let x = g.G.Group.known c.args.group.now in
    let y = g.G.Group.known c.serve_live_links-sent.new.group in
    let a = g.I.Source.known c.args.input.now in
    let b = g.I.Source.known c.serve_live_links-sent.new.input in
    live_down c.args.name.now c.args.pace c.args.stretch c.args.live.now g.S.Shelf.known c.args.shelf.now c.read_schedule.new.shelf u x c.input_makes_a_schedule.ensures plan valid
    c.in_ok-schedule.ensures.reads (c.in_ok-schedule.ensures.cause.same (λ is. cc)) v y c.serve_live_links-sent.ensures.same_count a b c.serve_live_links-sent.result c.requires.at_least_one
    (c.all_up.ensures.no c.if-all_up.false) c.serve_live_links-sent.ensures.cause
    (subst (λ p. ServedLive c.args.live.now p c.args.stretch c.args.pace c.serve_live_links-sent.result a b u v x y) same c.serve_live_links-sent.ensures.served)

pub returns-clause-nothing : goal.returns-clause-nothing
returns-clause-nothing g c = λ none. ((c.serve_live_links-sent.ensures.nothing none).0, λ whole is. absurd cc)
