use Rattle.std.proofs.Common.{ℕ, List, drop, arith, length-drop}
use Rattle.std.proofs.lemmas.Result.{err_from_is_err_and}
use Rattle.drm_sdc.specs.Field.{IsTail, IsNextEntity}
use Rattle.drm_sdc.proofs.FieldLaws.{AreBytes}
use Rattle.drm_sdc.proofs.EntityLaws.{small_rest}
use Rattle.drm_sdc.proofs.Walk.{one_more, next_is, at_tail, at_fault, some_here, none_here}
use Rattle.drm_sdc.proofs.field.check_entities.Goals as goal

pub returns-in_err-size-clause-fault : goal.returns-in_err-size-clause-fault
returns-in_err-size-clause-fault c =
    let p = err_from_is_err_and c.from_residual.result c.from_residual.ensures.1 in
    rw (p.1, p.2) (at_fault c.loop-size.invariant.entities c.loop-size.at c.args.field.now c.in_err-size.field-0.0 c.loop-size.invariant.before c.in_err-size.ensures.fault.0 c.in_err-size.ensures.fault.1)

pub loop-size-preserved : goal.loop-size-preserved
loop-size-preserved c =
    let field : List ℕ = c.args.field.now in
    let at : ℕ = c.loop-size.at in
    let n : ℕ = c.in-Some.size in
    let small : AreBytes field = λ i. omega (arith, c.type_inv.field i) in
    let next : IsNextEntity n (drop at field) = some_here c.in_ok-size.field-0 (λ m. IsNextEntity m (drop at field)) n c.in-Some.is c.in_ok-size.ensures.entity in
    record {
      within = omega (arith, next.within, length-drop at field, c.loop-size.invariant.within);
      entities = _;
      before = one_more c.loop-size.invariant.entities _ at n field c.loop-size.invariant.before next (next_is n (drop at field) (small_rest field at small) next);
    }

pub returns-clause-right : goal.returns-clause-right
returns-clause-right c =
    let field : List ℕ = c.args.field.now in
    let at : ℕ = c.loop-size.at in
    let tail : IsTail (drop at field) = none_here c.in_ok-size.field-0 (IsTail (drop at field)) c.in_default.not-Some c.in_ok-size.ensures.tail in
    (c.loop-size.invariant.entities, drop at field, at_tail c.loop-size.invariant.entities at field c.loop-size.invariant.before tail)
