use Rattle.std.proofs.Common.{arith}
use Rattle.std.proofs.lemmas.List.{take_all, length-take-le}
use Rattle.drm_bits.specs.Bits.{bits_of}
use Rattle.drm_bits.proofs.BitsLemmas.{length-bits_of}
use Rattle.drm_bits.proofs.bits.Bits.new.Goals as goal

pub returns-clause-remaining : goal.returns-clause-remaining
returns-clause-remaining c = length-take-le c.args.bits (bits_of c.args.bytes.now) (omega (arith, length-bits_of c.args.bytes.now, c.requires))

pub returns-clause-whole : goal.returns-clause-whole
returns-clause-whole c = λ whole. take_all c.args.bits (bits_of c.args.bytes.now) (omega (arith, length-bits_of c.args.bytes.now, whole))
