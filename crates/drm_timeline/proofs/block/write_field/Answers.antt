use Rattle.std.proofs.Common.{length, arith, ap}
use Rattle.drm_bits.specs.Sink.{unwritten}
use Rattle.drm_bits.proofs.BitsLemmas.{length-bits_of}
use Rattle.drm_timeline.proofs.BlockLemmas.{filled, own_fits, free_fits, used_is, field_done}
use Rattle.drm_timeline.proofs.block.write_field.Goals as goal

pub write_own_entities-requires-clause-room : goal.write_own_entities-requires-clause-room
write_own_entities-requires-clause-room c =
    own_fits c.args.config.now c.args.sf (length (unwritten c.new-sink.result)) c.requires.fits.some_block c.requires.room (omega (arith, c.requires.fits.room_fits))
    (omega (arith, ap length c.new-sink.ensures.unwritten, length-bits_of c.args.field.now, c.told-field))

pub write_announced-requires-clause-room : goal.write_announced-requires-clause-room
write_announced-requires-clause-room c =
    free_fits c.args.config.now c.args.sf c.new-sink.result c.write_own_entities.new.sink (omega (arith, c.requires.fits.room_fits))
    (omega (arith, ap length c.new-sink.ensures.unwritten, length-bits_of c.args.field.now, c.told-field)) c.write_own_entities.ensures

pub overflow_sub-from : goal.overflow_sub-from
overflow_sub-from c =
    let f = filled c.args.config.now c.args.plan.now c.args.sf c.new-sink.result c.write_own_entities.new.sink c.write_announced.new.sink c.requires.fits.some_block c.requires.room c.write_own_entities.ensures c.write_announced.ensures.announces in
    omega (arith, used_is c.len-used.result c.new-sink.ensures.empty c.len-used.ensures f, f.few, c.from.ensures)

pub put_zeros-requires : goal.put_zeros-requires
put_zeros-requires c =
    let f = filled c.args.config.now c.args.plan.now c.args.sf c.new-sink.result c.write_own_entities.new.sink c.write_announced.new.sink c.requires.fits.some_block c.requires.room c.write_own_entities.ensures c.write_announced.ensures.announces in
    omega (arith, used_is c.len-used.result c.new-sink.ensures.empty c.len-used.ensures f, f.few, f.wrote.left, c.from.ensures, c.requires.fits.room_fits, ap length c.new-sink.ensures.unwritten, length-bits_of c.args.field.now, c.told-field)

pub returns-clause-field : goal.returns-clause-field
returns-clause-field c =
    let f = filled c.args.config.now c.args.plan.now c.args.sf c.new-sink.result c.write_own_entities.new.sink c.write_announced.new.sink c.requires.fits.some_block c.requires.room c.write_own_entities.ensures c.write_announced.ensures.announces in
    field_done c.put_zeros.new.sink c.from.result _ c.from.ensures c.new-sink.ensures.empty f (used_is c.len-used.result c.new-sink.ensures.empty c.len-used.ensures f) c.put_zeros.ensures.wrote
