use Rattle.std.proofs.Common.{◌≡◌, ◌+◌, ◌*◌, List, Bool, length, take, sym, arith, ap, subst, length-append}
use Rattle.drm_bits.specs.Bits.{digits, bits_of}
use Rattle.drm_bits.proofs.BitsLemmas.{length-bits_of}
use Rattle.drm_sdc.specs.Block.{IsFramed, IsBlockChecked}
use Rattle.drm_sdc.proofs.Frames.{framed, open_length, length-value}
use Rattle.drm_sdc.proofs.unpack.unpack_block.Goals as goal

pub take_u16-stands-requires-clause-enough : goal.take_u16-stands-requires-clause-enough
take_u16-stands-requires-clause-enough c =
    let all : List Bool = take c.args.bits (bits_of c.args.value.now) in
    let rest : length c.behind_front-rest.result ≡ 8 * length c.args.field.now + 20 =
    open_length all c.behind_front-rest.result c.args.bits (length c.args.field.now) (sym (length-value c.args.value.now c.args.bits c.requires.length)) c.requires.open c.behind_front-rest.ensures.second c.behind_front-rest.ensures.first in
    omega (arith, rest, c.take_u8-afs.ensures.remaining, ap length c.unpack.ensures.bytes, length-append (bits_of c.unpack.new.bytes) c.unpack.new.bits, length-bits_of c.unpack.new.bytes, c.unpack.auto.bytes)

pub returns-then-stands-computed-clause-fault : goal.returns-then-stands-computed-clause-fault
returns-then-stands-computed-clause-fault c =
    let all : List Bool = take c.args.bits (bits_of c.args.value.now) in
    record {
      afs = c.take_u8-afs.result;
      field = c.unpack.new.bytes;
      framed =
          framed all c.behind_front-rest.result c.take_u8-afs.new.self c.unpack.new.bits c.args.bits (length c.args.field.now) c.take_u8-afs.result c.take_u16-stands.result c.unpack.new.bytes
          (sym (length-value c.args.value.now c.args.bits c.requires.length)) c.requires.open c.behind_front-rest.ensures.second c.behind_front-rest.ensures.first c.unpack.auto.bytes c.unpack.ensures.octets
          c.take_u8-afs.ensures.number c.take_u8-afs.ensures.rest c.unpack.ensures.bytes c.take_u16-stands.ensures.number;
      stands_fits = omega arith;
      computed_fits = omega arith;
      checked = c.check_value-computed.ensures.check;
      differ = c.if-stands-computed.true;
    }

pub returns-clause-parts : goal.returns-clause-parts
returns-clause-parts c =
    let all : List Bool = take c.args.bits (bits_of c.args.value.now) in
    let frame : IsFramed c.take_u8-afs.result c.unpack.new.bytes (digits 16 c.take_u16-stands.result) all =
    framed all c.behind_front-rest.result c.take_u8-afs.new.self c.unpack.new.bits c.args.bits (length c.args.field.now) c.take_u8-afs.result c.take_u16-stands.result c.unpack.new.bytes
    (sym (length-value c.args.value.now c.args.bits c.requires.length)) c.requires.open c.behind_front-rest.ensures.second c.behind_front-rest.ensures.first c.unpack.auto.bytes c.unpack.ensures.octets
    c.take_u8-afs.ensures.number c.take_u8-afs.ensures.rest c.unpack.ensures.bytes c.take_u16-stands.ensures.number in
    (digits 16 c.take_u16-stands.result, frame, subst (λ n. IsBlockChecked c.take_u8-afs.result c.unpack.new.bytes (digits 16 n)) (sym c.if-stands-computed.false) c.check_value-computed.ensures.check)
