use Rattle.std.proofs.Common.{◌≡◌, ◌-◌, ◌*◌, ◌++◌, ℕ, length, take, replicate, arith, ap, ◌∙◌}
use Rattle.drm_bits.specs.Bits.{bits_of}
use Rattle.drm_bits.specs.Sink.{written}
use Rattle.drm_bits.proofs.BitsLemmas.{length-bits_of}
use Rattle.drm_bits.proofs.SinkLemmas.{front-bytes}
use Rattle.drm_sdc.specs.Writing.{entity_bits}
use Rattle.drm_sdc.proofs.EntityLaws.{small_front}
use Rattle.drm_bits.proofs.WroteLemmas.{then}
use Rattle.drm_sdc.proofs.WrittenField.{field_is, field_length}
use Rattle.drm_sdc.proofs.write_field.write_field.Goals as goal

pub write_entities-requires-clause-room : goal.write_entities-requires-clause-room
write_entities-requires-clause-room c = omega (arith, ap length c.new-sink.ensures.unwritten, length-bits_of c.args.field.now, c.told-field, c.requires.needed, c.requires.room)

pub put_zeros-requires : goal.put_zeros-requires
put_zeros-requires c =
    omega (arith, ap length c.new-sink.ensures.unwritten, length-bits_of c.args.field.now, c.told-field, c.requires.needed, c.requires.room, c.write_entities.ensures.remaining)

pub returns-clause-field : goal.returns-clause-field
returns-clause-field c =
    let n : ℕ = c.args.room - c.args.needed in
    let wrote = then c.write_entities.ensures.wrote c.put_zeros.ensures.wrote in
    let parts = entity_bits c.args.entities.now ++ bits_of (replicate n 0) in
    let all : written c.put_zeros.new.sink ≡ parts = wrote.more ∙ ap (λ l. l ++ parts) c.new-sink.ensures.empty in
    let size : length (written c.put_zeros.new.sink) ≡ 8 * c.args.room = omega (arith, ap length all, field_length c.args.entities.now n c.requires.fit, c.requires.needed, c.requires.room) in
    field_is c.args.entities.now n (take c.args.room c.put_zeros.new.sink.bytes.now) (small_front c.put_zeros.new.sink.bytes.now c.args.room c.put_zeros.new.sink.octets) c.requires.fit (front-bytes c.put_zeros.new.sink c.args.room size ∙ all)
