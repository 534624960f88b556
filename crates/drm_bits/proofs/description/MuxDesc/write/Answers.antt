use Rattle.std.proofs.Common.{ℕ, take, subst}
use Rattle.drm_bits.specs.Fields.{spelled}
use Rattle.drm_bits.specs.Description.{part_fields}
use Rattle.drm_bits.specs.Sink.{WroteBits}
use Rattle.drm_bits.proofs.WroteLemmas.{then}
use Rattle.drm_bits.proofs.description.MuxDesc.write.Goals as goal

pub returns-clause-wrote : goal.returns-clause-wrote
returns-clause-wrote c =
    let parts = subst (λ (n : ℕ). WroteBits (spelled (part_fields (take n c.args.self.now.parts))) c.put_u8-2.new.self c.write_parts.new.sink) c.from.ensures c.write_parts.ensures.wrote in
    then c.put_u8.ensures.wrote (then c.put_u8-2.ensures.wrote parts)
