use Rattle.gf_field.proofs.LaneProducts.{doubled}
use Rattle.gf_field.proofs.lanes.doubled.Goals as goal

pub returns : goal.returns
returns c = doubled 16 c.args.lanes c.fits-lanes.0 c.fits-lanes.1
