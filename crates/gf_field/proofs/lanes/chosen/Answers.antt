use Rattle.gf_field.proofs.LaneProducts.{chosen_lanes}
use Rattle.gf_field.proofs.lanes.chosen.Goals as goal

pub returns : goal.returns
returns c = chosen_lanes 16 c.args.bit c.args.a c.args.b c.fits-a.0 c.fits-b.0
