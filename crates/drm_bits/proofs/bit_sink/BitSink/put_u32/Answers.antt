use Rattle.drm_bits.proofs.WroteLemmas.{wrote_number}
use Rattle.drm_bits.proofs.bit_sink.BitSink.put_u32.Goals as goal

pub returns-clause-wrote : goal.returns-clause-wrote
returns-clause-wrote c =
    wrote_number c.args.self.now c.put.new.self c.args.width c.from.result c.args.number c.from.ensures
    c.in-Ok.ensures.written c.in-Ok.ensures.unwritten c.put.ensures.same_reference
