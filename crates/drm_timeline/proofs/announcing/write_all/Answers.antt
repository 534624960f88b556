use Rattle.std.proofs.Common.{◌-◌, sym, subst, List, length, map, filter, drop, All, length-drop, arith}
use Rattle.std.proofs.lemmas.List.{take_all}
use Rattle.std.proofs.lemmas.List.Elements.{All-drop}
use Rattle.drm_sdc.specs.declared.entity.Entity.{Entity}
use Rattle.drm_schedule.specs.Ranges.{EntityInLines}
use Rattle.drm_schedule.specs.SameLines.{is_of}
use Rattle.drm_schedule.specs.Announcement.{repeated_of}
use Rattle.drm_timeline.specs.Announcing.{as_next}
use Rattle.drm_timeline.proofs.PackedLemmas.{Packs, packs_start, packs_some, packs_step, packs_room, packs_end}
use Rattle.drm_timeline.proofs.announcing.write_all.Goals as goal

pub loop-left-init : goal.loop-left-init
loop-left-init c =
    subst (λ (left : List Entity). Packs c.args.frame c.args.free.now c.args.from (map as_next (repeated_of c.args.repeated c.args.config.now)) c.args.from (map as_next (filter (λ (e : Entity). is_of c.args.repeated e.body) left)) c.args.sink.now c.args.sink.now × All EntityInLines left)
    (sym c.first_entities-left.ensures)
    (packs_start c.args.frame c.args.free.now c.args.from (repeated_of c.args.repeated c.args.config.now) c.args.sink.now c.requires.packs, c.requires.each)

pub write_repeated-spot-requires-clause-packs : goal.write_repeated-spot-requires-clause-packs
write_repeated-spot-requires-clause-packs c =
    packs_some c.args.free.now c.loop-left.spot c.args.repeated c.loop-left.left.now c.entity-item.result c.in-len1-up.len_at_least c.entity-item.is c.loop-left.invariant.0.some

pub write_repeated-spot-requires-clause-room : goal.write_repeated-spot-requires-clause-room
write_repeated-spot-requires-clause-room c = packs_room c.loop-left.invariant.0 c.requires.room

pub loop-left-preserved : goal.loop-left-preserved
loop-left-preserved c =
    let left : List Entity = c.loop-left.left.now in
    subst (λ (more : List Entity). Packs c.args.frame c.args.free.now c.args.from (map as_next (repeated_of c.args.repeated c.args.config.now)) c.write_repeated-spot.result (map as_next (filter (λ (e : Entity). is_of c.args.repeated e.body) more)) c.args.sink.now c.write_repeated-spot.new.sink × All EntityInLines more)
    (sym (take_all (length left - 1) (drop 1 left) (omega (arith, length-drop 1 left)))) (
      packs_step c.args.frame c.args.free.now c.args.from c.loop-left.spot c.write_repeated-spot.result (map as_next (repeated_of c.args.repeated c.args.config.now)) c.args.repeated left c.entity-item.result c.args.sink.now c.loop-left.sink c.write_repeated-spot.new.sink
          c.in-len1-up.len_at_least c.entity-item.is c.loop-left.invariant.0 c.write_repeated-spot.ensures.spot c.write_repeated-spot.ensures.wrote,
      All-drop EntityInLines 1 left c.loop-left.invariant.1,
    )

pub returns-clause-spot : goal.returns-clause-spot
returns-clause-spot c =
    (packs_end c.args.frame c.args.free.now c.args.from c.loop-left.spot (repeated_of c.args.repeated c.args.config.now) c.loop-left.left.now c.args.repeated c.args.sink.now c.loop-left.sink c.in_default.len_below c.loop-left.invariant.0).0

pub returns-clause-wrote : goal.returns-clause-wrote
returns-clause-wrote c =
    (packs_end c.args.frame c.args.free.now c.args.from c.loop-left.spot (repeated_of c.args.repeated c.args.config.now) c.loop-left.left.now c.args.repeated c.args.sink.now c.loop-left.sink c.in_default.len_below c.loop-left.invariant.0).1
