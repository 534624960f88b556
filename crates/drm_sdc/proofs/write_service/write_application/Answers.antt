use Rattle.std.proofs.Common.{List, ◌++◌, ◌∷◌, subst, append_assoc}
use Rattle.drm_bits.specs.Fields.{BitField, field, flag, spelled}
use Rattle.drm_sdc.specs.Bodies.{mode_fields, mode_length, octets}
use Rattle.drm_bits.specs.Sink.{WroteBits}
use Rattle.drm_bits.proofs.WroteLemmas.{then, join}
use Rattle.drm_sdc.proofs.Written.{wrote_octets}
use Rattle.drm_sdc.proofs.write_service.write_application.Goals as goal

pub returns-clause-wrote : goal.returns-clause-wrote
returns-clause-wrote c =
    let before : List BitField = mode_fields c.args.packet in
    let behind : List BitField = flag c.args.enhancement ∷ field 3 c.args.domain ∷ mode_length c.args.packet in
    let bytes : List BitField = octets c.args.bytes.now in
    let all = join (before ++ behind) bytes (then c.write_mode.ensures.wrote (wrote_octets c.args.bytes.now c.put_octets.ensures.wrote)) in
    let same = subst (λ (l : List BitField). WroteBits (spelled l) c.put_u8-2.new.self c.put_octets.new.sink) (append_assoc before behind bytes) all in
    then c.put_u8.ensures.wrote (then c.put_u8-2.ensures.wrote same)
