use Rattle.std.proofs.Common.{◌≡◌, ◌++◌, List, Bool, length, sym, ◌∙◌, ap, arith}
use Rattle.drm_bits.specs.Fields.{spelled}
use Rattle.drm_bits.specs.Sink.{written}
use Rattle.drm_bits.proofs.BitsLemmas.{length-bits_of}
use Rattle.drm_bits.proofs.FieldLemmas.{spelled-append}
use Rattle.drm_bits.proofs.SinkLemmas.{front-bytes}
use Rattle.drm_fac.specs.Fac.{channel_fields, service_fields, fac_fields}
use Rattle.drm_fac.proofs.WriteLemmas.{length-spelled}
use Rattle.drm_fac.proofs.fac.write_parameters.Goals as goal

pub write-requires-clause-room : goal.write-requires-clause-room
write-requires-clause-room c = omega (arith, ap length c.new-sink.ensures.unwritten, length-bits_of c.args.into.now, c.told-into)

pub write-requires-2-clause-room : goal.write-requires-2-clause-room
write-requires-2-clause-room c = omega (arith, ap length c.new-sink.ensures.unwritten, length-bits_of c.args.into.now, c.told-into, c.write.ensures.remaining)

pub returns-clause-bytes : goal.returns-clause-bytes
returns-clause-bytes c = c.write-2.new.sink.octets

pub returns-clause-bits : goal.returns-clause-bits
returns-clause-bits c =
    let channel : List Bool = spelled (channel_fields c.args.fac.now.channel) in
    let service : List Bool = spelled (service_fields c.args.fac.now.service) in
    let whole : written c.write-2.new.sink ≡ spelled (fac_fields c.args.fac.now) =
    c.write-2.ensures.wrote.more
    ∙ (ap (λ l. l ++ service) (c.write.ensures.wrote.more ∙ ap (λ l. l ++ channel) c.new-sink.ensures.empty)
    ∙ sym (spelled-append (channel_fields c.args.fac.now.channel) (service_fields c.args.fac.now.service))) in
    front-bytes c.write-2.new.sink 8 (ap length whole ∙ length-spelled (fac_fields c.args.fac.now)) ∙ whole
