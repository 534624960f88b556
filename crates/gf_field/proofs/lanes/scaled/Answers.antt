use Rattle.std.proofs.Common.{ap, ap₂, ◌∙◌, ◌+◌, ◌*◌, ℕ, List}
use lib.Lanes.{chunk}
use Rattle.gf_field.specs.Lanes.{of_nibbles}
use Rattle.gf_field.specs.declared.nibbles.TheConstants.{NIBBLES}
use Rattle.gf_field.proofs.TableProducts.{scaled_is}
use Rattle.gf_field.proofs.lanes.scaled.Goals as goal

pub returns : goal.returns
returns c =
    c.by_nibbles.ensures
    ∙ ap₂ (λ (p q : List ℕ). of_nibbles p q c.args.lanes) c.nibble_products.ensures c.nibble_products-2.ensures
    ∙ ap (λ (f : ℕ). of_nibbles (chunk (32 * f) 16 NIBBLES) (chunk (32 * f + 16) 16 NIBBLES) c.args.lanes) c.from-row.ensures
    ∙ scaled_is c.args.factor c.args.lanes c.ranges.factor.fits c.fits-lanes.1
