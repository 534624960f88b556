use Rattle.std.proofs.Common.{arith}
use Rattle.std.proofs.lemmas.Grind.{common_steps}
use Rattle.drm_bits.proofs.BitsLemmas.{length-bits_of}
use Rattle.drm_bits.proofs.bits.Bits.left.Goals as goal

pub returns : goal.returns
returns c = rw (← c.self.view_is) (grind (arith, common_steps, length-bits_of c.self.inside.bytes.now))
