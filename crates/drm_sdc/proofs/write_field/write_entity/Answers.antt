use Rattle.std.proofs.Common.{ℕ, subst}
use Rattle.drm_bits.specs.Bits.{digits}
use Rattle.drm_bits.specs.Sink.{WroteBits}
use Rattle.drm_bits.proofs.WroteLemmas.{then}
use Rattle.drm_sdc.proofs.write_field.write_entity.Goals as goal

pub write_body-requires-clause-fits : goal.write_body-requires-clause-fits
write_body-requires-clause-fits c =
    let fit = c.requires.fits.fields in
    record { fields = (fit.0, (fit.1.1.0, fit.1.1.1)); body = c.requires.fits.body }

pub returns-clause-wrote : goal.returns-clause-wrote
returns-clause-wrote c =
    let length = subst (λ (n : ℕ). WroteBits (digits 7 n) c.args.sink.now c.put_u8.new.self) c.body_size-len.ensures c.put_u8.ensures.wrote in
    let kind = subst (λ (n : ℕ). WroteBits (digits 4 n) c.put_flag.new.self c.put_u8-2.new.self) c.type_of.ensures c.put_u8-2.ensures.wrote in
    then length (then c.put_flag.ensures.wrote (then kind c.write_body.ensures.wrote))
