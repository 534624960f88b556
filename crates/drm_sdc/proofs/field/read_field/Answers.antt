use Rattle.std.proofs.Common.{ℕ, ◌+◌, List, drop, sym, ◌∙◌, subst, arith, length-drop, inr}
use Rattle.std.proofs.lemmas.List.{take_rest}
use Rattle.std.proofs.lemmas.Result.{err_from_is_err_and}
use Rattle.drm_sdc.specs.declared.entity.Entity.{Entity}
use Rattle.drm_sdc.specs.Field.{IsTail, IsField, IsNextEntity}
use Rattle.drm_sdc.proofs.FieldLaws.{AreBytes}
use Rattle.drm_sdc.proofs.Walk.{IsBefore, one_more, at_tail, at_fault, some_here, none_here, entity_here}
use Rattle.drm_sdc.proofs.field.read_field.Goals as goal

pub returns-in_err-size-clause-fault : goal.returns-in_err-size-clause-fault
returns-in_err-size-clause-fault c =
    let p = err_from_is_err_and c.from_residual.result c.from_residual.ensures.1 in
    rw (p.1, p.2) (inr (at_fault c.loop-entities.entities c.loop-entities.at c.args.field.now c.in_err-size.field-0.0 c.loop-entities.invariant.before c.in_err-size.ensures.fault.0 c.in_err-size.ensures.fault.1))

pub loop-entities-preserved : goal.loop-entities-preserved
loop-entities-preserved c =
    let field : List ℕ = c.args.field.now in
    let at : ℕ = c.loop-entities.at in
    let n : ℕ = c.in-Some.size in
    let small : AreBytes field = λ i. omega (arith, c.type_inv.field i) in
    let next : IsNextEntity n (drop at field) = some_here c.in_ok-size.field-0 (λ m. IsNextEntity m (drop at field)) n c.in-Some.is c.in_ok-size.ensures.entity in
    let e : Entity = c.in_ok-entity.entity in
    record {
      within = omega (arith, next.within, length-drop at field, c.loop-entities.invariant.within);
      before =
          subst (λ (l : List Entity). IsBefore l (at + n) field) (sym c.in_ok-push.ensures.pushed)
          (one_more c.loop-entities.entities e at n field c.loop-entities.invariant.before next (entity_here e at n field small next c.in_ok-entity.ensures));
    }

pub returns-clause-read : goal.returns-clause-read
returns-clause-read c =
    let field : List ℕ = c.args.field.now in
    let at : ℕ = c.loop-entities.at in
    let tail : IsTail (drop at field) = none_here c.in_ok-size.field-0 (IsTail (drop at field)) c.in_default.not-Some c.in_ok-size.ensures.tail in
    subst (λ (t : List ℕ). IsField c.loop-entities.entities t field) (sym (c.in_ok-tail.ensures ∙ take_rest field at)) (at_tail c.loop-entities.entities at field c.loop-entities.invariant.before tail)
