use Rattle.std.proofs.Common.{◌≡◌, ℕ, ◌+◌, ◌≤◌, ◌<◌, List, length, take, sym, ap, subst, arith, rules}
use Rattle.std.proofs.lemmas.List.{take_rest}
use Rattle.drm_sdc.specs.Reading.{described_length, IsWellFormedEntity}
use Rattle.drm_sdc.specs.Field.{IsTail, IsEntityFault, IsNextEntity, first_entity}
use Rattle.drm_sdc.proofs.next_entity.next_entity.Goals as goal

here : (n : ℕ) (bytes : List ℕ) → n ≡ described_length bytes → n < 128 → 2 + n ≤ length bytes → IsWellFormedEntity (first_entity bytes) → ¬ IsTail bytes → IsNextEntity (2 + n) bytes
here n bytes is short within sound no_tail = record {
  size = ap (λ k. 2 + k) is;
  within = within;
  small = omega arith;
  sound = subst (λ (k : ℕ). IsWellFormedEntity (take (2 + k) bytes)) (sym is) sound;
  no_tail = no_tail;
}

pub returns-in-Ok-clause-entity : goal.returns-in-Ok-clause-entity
returns-in-Ok-clause-entity c =
    subst (λ (bytes : List ℕ). IsNextEntity (2 + c.header_length-len.result) bytes) (take_rest c.args.field.now c.args.at)
    (here c.header_length-len.result _ c.header_length-len.ensures.length c.header_length-len.ensures.fits c.if-rest-len.false c.in-Ok.ensures.sound (search rules))

pub returns-in-Err-clause-fault : goal.returns-in-Err-clause-fault
returns-in-Err-clause-fault c =
    subst (λ (bytes : List ℕ). (¬ IsTail bytes) × IsEntityFault c.args.at bytes c.in-Err.fault) (take_rest c.args.field.now c.args.at)
    (search rules, c.in-Err.ensures.fault)
