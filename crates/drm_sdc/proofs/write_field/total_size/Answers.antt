use Rattle.std.proofs.Common.{◌≡◌, ◌+◌, take, List, arith, ap, ◌∙◌}
use Rattle.std.proofs.lemmas.List.{take_all}
use Rattle.drm_sdc.specs.declared.entity.Entity.{Entity}
use Rattle.drm_sdc.specs.Writing.{total_size}
use Rattle.drm_sdc.proofs.WrittenField.{size_here, size_front}
use Rattle.drm_sdc.proofs.write_field.total_size.Goals as goal

more : (c : goal.After-size-total) → c.loop-entity.total + c.size-total.result ≡ total_size (take (c.loop-entity.entity-index + 1) c.args.entities.now)
more c =
    let before : c.loop-entity.total ≡ total_size (take c.loop-entity.entity-index c.args.entities.now) = c.loop-entity.invariant in
    omega (arith, before, c.size-total.ensures, size_here c.args.entities.now c.loop-entity.entity-index c.entity-item.result c.loop-entity-test.true c.entity-item.is)

pub overflow_add-total : goal.overflow_add-total
overflow_add-total c = omega (arith, more c, size_front c.args.entities.now (c.loop-entity.entity-index + 1), c.requires.in_range)

pub loop-entity-preserved : goal.loop-entity-preserved
loop-entity-preserved c = more c

pub returns : goal.returns
returns c =
    let before : c.loop-entity.total ≡ total_size (take c.loop-entity.entity-index c.args.entities.now) = c.loop-entity.invariant in
    before ∙ ap (λ (l : List Entity). total_size l) (take_all c.loop-entity.entity-index c.args.entities.now c.loop-entity-test.false)
