use Rattle.gf_field.proofs.Times.{product_is_remainder}
use Rattle.gf_field.proofs.laws.product_is_remainder.Goals as goal

pub returns : goal.returns
returns c = product_is_remainder
