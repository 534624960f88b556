use Rattle.std.proofs.Common.{sym}
use Rattle.drm_bits.proofs.SinkLemmas.{length-written}
use Rattle.drm_bits.proofs.bit_sink.BitSink.len.Goals as goal

pub returns : goal.returns
returns c = sym (length-written c.args.self.now)
