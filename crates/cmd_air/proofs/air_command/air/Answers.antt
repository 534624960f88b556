use Rattle.std.proofs.Common.{◌∙◌, ap, Err, rules}
use Rattle.std.proofs.lemmas.Result.{err_from_is_err_and}
use Rattle.drm_schedule.specs.Valid.{IsSchedule}
use Rattle.drm_links.proofs.KnownLemmas.{counts_as}
use Rattle.cmd_faults.proofs.CauseLemmas.{inner_fault}
use Rattle.cmd_air.proofs.AirLemmas.{no_schedule, no_script, ran_over, feeds_are}
use Rattle.cmd_air.proofs.air_command.air.Goals as goal

pub returns-in_err-plan : goal.returns-in_err-plan
returns-in_err-plan g c =
    let p = err_from_is_err_and c.from_residual.result c.from_residual.ensures.1 in
    record {
      run = rw (p.1 ∙ ap Err p.2)
          (no_schedule c.args.name.now c.args.script.now c.args.window g.S.Shelf.known g.O.Sink.known c.args.out.now c.in_err-plan.field-0.0 c.args.shelf.now c.read_schedule.new.shelf
          c.in_err-plan.ensures.reads (counts_as (λ is. ap Err is) (λ is. inner_fault _ _ is) c.in_err-plan.ensures.cause));
    }

pub returns-in-Err : goal.returns-in-Err
returns-in-Err g c =
    let valid : IsSchedule c.in_ok-plan.plan = rw (← c.plan.view_is) c.plan.invariant in
    record {
      run = rw c.script_fault.ensures
          (no_script c.args.name.now c.args.script.now c.args.window g.S.Shelf.known g.O.Sink.known c.args.out.now c.in_ok-plan.plan c.in-Err.fault c.args.shelf.now c.read_schedule.new.shelf c.read_script_named.new.shelf
          valid c.in_ok-plan.ensures.reads c.in-Err.ensures.reads (c.in_ok-plan.ensures.cause.same (λ is. cc)) (counts_as (λ is. ap Err is) (λ is. inner_fault _ _ is) c.in-Err.ensures.cause));
    }

pub air_over-requires : goal.air_over-requires
air_over-requires g c = (search rules, (c.requires.at_least_one, (c.requires.within_limit, feeds_are c.in_ok-plan.plan c.in-Ok.script c.in-Ok.ensures.script)))

pub returns : goal.returns
returns g c =
    let valid : IsSchedule c.in_ok-plan.plan = rw (← c.plan.view_is) c.plan.invariant in
    record {
      run = ran_over c.args.name.now c.args.script.now c.args.window c.in_ok-plan.plan c.in-Ok.script c.air_over.result g.S.Shelf.known c.args.shelf.now c.read_schedule.new.shelf c.read_script_named.new.shelf
          g.O.Sink.known c.args.out.now c.air_over.new.out valid c.in_ok-plan.ensures.reads c.in-Ok.ensures.reads (c.in_ok-plan.ensures.cause.same (λ is. cc)) (c.in-Ok.ensures.cause.same (λ is. cc))
          (c.in-Ok.ensures.script, c.air_over.ensures.writes, c.air_over.ensures.kind) c.air_over.ensures.cause;
    }
