use Rattle.std.proofs.Common.{sym, subst, List, arith}
use Rattle.drm_sdc.specs.declared.entity.Entity.{Entity}
use Rattle.drm_sdc.specs.Entity.{entity_size}
use Rattle.drm_timeline.specs.Announcing.{next}
use Rattle.drm_timeline.specs.Telling.{WroteEntities}
use Rattle.drm_timeline.proofs.PackedLemmas.{room_step, packed_one, placed_is}
use Rattle.drm_timeline.proofs.announcing.write_next.Goals as goal

pub write_where-requires-clause-room : goal.write_where-requires-clause-room
write_where-requires-clause-room c =
    omega (arith, c.requires.room, room_step c.args.frame c.args.free.now c.args.spot c.in-Some.placed (entity_size (next c.args.body.now)) (placed_is c.args.free.now c.args.spot c.in-Some.placed c.args.size (entity_size (next c.args.body.now)) c.place.result c.requires.size c.place.ensures c.in-Some.is))

pub returns-clause-wrote : goal.returns-clause-wrote
returns-clause-wrote c =
    subst (λ (es : List Entity). WroteEntities es c.args.sink.now c.write_where.new.sink)
    (sym (packed_one c.args.frame c.args.free.now c.args.spot c.in-Some.placed (next c.args.body.now) (placed_is c.args.free.now c.args.spot c.in-Some.placed c.args.size (entity_size (next c.args.body.now)) c.place.result c.requires.size c.place.ensures c.in-Some.is))) c.write_where.ensures.wrote
