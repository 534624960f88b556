use Rattle.std.proofs.Common.{refl}
use Rattle.drm_bits.specs.Bits.{digits}
use Rattle.test_formats.proofs.frames.writes_the_first_frame.Goals as goal

pub block-requires-clause-padding : goal.block-requires-clause-padding
unfolding digits
block-requires-clause-padding g c = refl
