use Rattle.std.proofs.Common.{◌≡◌, ◌+◌, ◌*◌, ◌++◌, List, ℕ, length, arith, ap, ◌∙◌}
use Rattle.drm_bits.specs.Bits.{digits, bits_of}
use Rattle.drm_bits.specs.Sink.{written}
use Rattle.drm_bits.proofs.BitsLemmas.{length-bits_of, length-digits}
use Rattle.drm_bits.proofs.SinkLemmas.{front-bytes}
use Rattle.drm_bits.proofs.WroteLemmas.{then}
use Rattle.drm_sdc.proofs.WrittenField.{frame_bits, frame_length}
use Rattle.drm_sdc.proofs.written_block.write_frame.Goals as goal

pub put_u8-requires-clause-room : goal.put_u8-requires-clause-room
put_u8-requires-clause-room c = omega (arith, ap length c.new-sink.ensures.unwritten, length-bits_of c.args.into.now, c.told-into)

pub put_bytes-requires : goal.put_bytes-requires
put_bytes-requires c = omega (arith, ap length c.new-sink.ensures.unwritten, length-bits_of c.args.into.now, c.told-into, c.put_u8.ensures.remaining, c.requires.room)

pub put_u16-requires-clause-room : goal.put_u16-requires-clause-room
put_u16-requires-clause-room c =
    omega (arith, ap length c.new-sink.ensures.unwritten, length-bits_of c.args.into.now, c.told-into, c.put_u8.ensures.remaining, c.put_bytes.ensures.remaining, c.requires.room)

pub put_u8-requires-2-clause-room : goal.put_u8-requires-2-clause-room
put_u8-requires-2-clause-room c =
    omega (arith, ap length c.new-sink.ensures.unwritten, length-bits_of c.args.into.now, c.told-into, c.put_u8.ensures.remaining, c.put_bytes.ensures.remaining, c.put_u16.ensures.remaining, c.requires.room)

pub returns-clause-frame : goal.returns-clause-frame
returns-clause-frame c =
    let wrote = then c.put_u8.ensures.wrote (then c.put_bytes.ensures.wrote (then c.put_u16.ensures.wrote c.put_u8-2.ensures.wrote)) in
    let field : List ℕ = c.args.field.now in
    let check : ℕ = c.check_value-check.result in
    let parts = digits 4 c.args.afs ++ (bits_of field ++ (digits 16 check ++ digits 4 0)) in
    let all : written c.put_u8-2.new.self ≡ parts = wrote.more ∙ ap (λ l. l ++ parts) c.new-sink.ensures.empty in
    let size : length (written c.put_u8-2.new.self) ≡ 8 * (length field + 3) = ap length all ∙ frame_length c.args.afs check field in
    (digits 16 check, c.check_value-check.ensures.check, length-digits 16 check, front-bytes c.put_u8-2.new.self (length field + 3) size ∙ (all ∙ frame_bits c.args.afs check field))
