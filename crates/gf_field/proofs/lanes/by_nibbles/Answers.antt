use Rattle.std.proofs.Common.{arith}
use Rattle.gf_field.proofs.FourBits.{low_ok, high_ok, nibbles_are}
use Rattle.gf_field.proofs.lanes.by_nibbles.Goals as goal

pub swizzle : goal.swizzle
swizzle c = low_ok c.args.lanes c.fits-lanes.0

pub swizzle-2 : goal.swizzle-2
swizzle-2 c = high_ok c.args.lanes c.fits-lanes.0 c.fits-lanes.1

pub returns : goal.returns
returns c = nibbles_are 16 0 c.args.low c.args.high c.args.lanes c.fits-lanes.0 (omega arith) c.fits-lanes.1
