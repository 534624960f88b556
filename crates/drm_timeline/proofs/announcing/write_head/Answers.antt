use Rattle.std.proofs.Common.{◌∙◌, sym, ap, subst, length, true}
use Rattle.drm_bits.specs.declared.description.MuxDesc.{MuxDesc}
use Rattle.drm_sdc.specs.declared.body.Body.TheVariants.{Mux}
use Rattle.drm_sdc.specs.Entity.{EntityFits}
use Rattle.plan_packing.specs.Packing.{placed, front}
use Rattle.drm_timeline.specs.Announcing.{next}
use Rattle.drm_timeline.specs.Description.{description_of}
use Rattle.drm_timeline.proofs.PackedLemmas.{wrote_two, room_one}
use Rattle.drm_timeline.proofs.AnnouncingLemmas.{head_here, head_wrote}
use Rattle.drm_timeline.proofs.OwnLemmas.{description_fits}
use Rattle.drm_timeline.proofs.announcing.write_head.Goals as goal

pub write_next-spot-requires-clause-fits : goal.write_next-spot-requires-clause-fits
write_next-spot-requires-clause-fits c =
    subst (λ (d : MuxDesc). EntityFits (next (Mux d))) (sym c.description-desc.ensures) (description_fits c.args.config.now true c.requires.fits)

pub write_next-requires-clause-room : goal.write_next-requires-clause-room
write_next-requires-clause-room c =
    room_one c.args.frame c.args.free.now front c.write_next-spot.result (next (Mux (description_of c.args.config.now))) c.args.sink.now c.write_next-spot.new.sink
    (head_here c.args.free.now c.front.result c.write_next-spot.result c.len.result (length c.args.config.now.streams) c.front.ensures c.len.ensures c.write_next-spot.ensures.spot)
    c.requires.room
    (head_wrote c.args.frame c.args.free.now c.front.result c.description-desc.result (description_of c.args.config.now) c.args.sink.now c.write_next-spot.new.sink c.front.ensures c.description-desc.ensures c.write_next-spot.ensures.wrote)

pub returns-clause-wrote : goal.returns-clause-wrote
returns-clause-wrote c = (
  c.parameters.result,
  c.parameters.ensures.parameters,
  wrote_two c.args.frame c.args.free.now front c.write_next-spot.result c.write_next.result (next (Mux (description_of c.args.config.now))) (next c.parameters.result) c.args.sink.now c.write_next-spot.new.sink c.write_next.new.sink
      (head_here c.args.free.now c.front.result c.write_next-spot.result c.len.result (length c.args.config.now.streams) c.front.ensures c.len.ensures c.write_next-spot.ensures.spot)
      (ap (placed c.args.free.now c.write_next-spot.result) c.parameters.ensures.size ∙ c.write_next.ensures.spot)
      (head_wrote c.args.frame c.args.free.now c.front.result c.description-desc.result (description_of c.args.config.now) c.args.sink.now c.write_next-spot.new.sink c.front.ensures c.description-desc.ensures c.write_next-spot.ensures.wrote)
      c.write_next.ensures.wrote,
)
