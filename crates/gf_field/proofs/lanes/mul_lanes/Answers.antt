use Rattle.gf_field.proofs.LaneProducts.{product_at}
use Rattle.gf_field.proofs.lanes.mul_lanes.Goals as goal

pub returns-clause-product : goal.returns-clause-product
returns-clause-product c = product_at 16 c.args.a c.args.b c.products.result c.products.ensures c.fits-a.0 c.fits-b.0 c.fits-a.1 c.fits-b.1
