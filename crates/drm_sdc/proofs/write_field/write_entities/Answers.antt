use Rattle.std.proofs.Common.{◌≡◌, List, Bool, ℕ, ◌+◌, take, ◌∙◌, ap, arith, subst}
use Rattle.std.proofs.lemmas.List.{take_all}
use Rattle.drm_sdc.specs.declared.entity.Entity.{Entity}
use Rattle.drm_bits.specs.Sink.{WroteBits}
use Rattle.drm_sdc.specs.Writing.{entity_bits}
use Rattle.drm_bits.proofs.WroteLemmas.{each, wrote_none, wrote_more}
use Rattle.drm_sdc.proofs.WrittenField.{bits_of_entity, entities_each, size_here, size_front}
use Rattle.drm_sdc.proofs.write_field.write_entities.Goals as goal

pub write_entity-requires-clause-room : goal.write_entity-requires-clause-room
write_entity-requires-clause-room c =
    omega (arith, c.loop-entity.invariant.left, c.requires.room, size_here c.args.entities.now c.loop-entity.entity-index c.entity-item.result c.loop-entity-test.true c.entity-item.is, size_front c.args.entities.now (c.loop-entity.entity-index + 1))

pub loop-entity-init : goal.loop-entity-init
loop-entity-init c = record { wrote = wrote_none c.args.sink.now; left = omega arith }

pub loop-entity-preserved : goal.loop-entity-preserved
loop-entity-preserved c =
    let e : Entity = c.entity-item.result in
    let i : ℕ = c.loop-entity.entity-index in
    let more = subst (λ (x : Entity). WroteBits (bits_of_entity x) c.loop-entity.sink c.write_entity.new.sink) c.entity-item.is c.write_entity.ensures.wrote in
    record {
      wrote = wrote_more bits_of_entity c.args.entities.now i e c.loop-entity-test.true c.loop-entity.invariant.wrote more;
      left = omega (arith, c.loop-entity.invariant.left, c.write_entity.ensures.remaining, size_here c.args.entities.now i e c.loop-entity-test.true c.entity-item.is);
    }

pub returns-clause-wrote : goal.returns-clause-wrote
returns-clause-wrote c =
    let all : each bits_of_entity (take c.loop-entity.entity-index c.args.entities.now) ≡ entity_bits c.args.entities.now =
    ap (each bits_of_entity) (take_all c.loop-entity.entity-index c.args.entities.now c.loop-entity-test.false) ∙ entities_each c.args.entities.now in
    subst (λ (l : List Bool). WroteBits l c.args.sink.now c.loop-entity.sink) all c.loop-entity.invariant.wrote
