use Rattle.std.proofs.Common.{ap₂, ◌∙◌, ◌+◌, ◌*◌, ℕ, get_or, bit_xor}
use Rattle.gf_field.specs.declared.nibbles.TheConstants.{NIBBLES}
use Rattle.gf_field.proofs.TableProducts.{product_is}
use Rattle.gf_field.proofs.Times.{is_product}
use Rattle.gf_field.proofs.tables.product_of.Goals as goal

pub returns-clause-value : goal.returns-clause-value
returns-clause-value c =
    ap₂ bit_xor
    (c.nibble_product.ensures ∙ ap₂ (λ (m n : ℕ). get_or NIBBLES (32 * m + n) 0) c.from-row.ensures c.from.ensures)
    (c.nibble_product-2.ensures ∙ ap₂ (λ (m n : ℕ). get_or NIBBLES (32 * m + 16 + n) 0) c.from-row.ensures c.from-2.ensures)
    ∙ product_is c.args.x c.args.y c.ranges.x.fits c.ranges.y.fits

pub returns-clause-product : goal.returns-clause-product
returns-clause-product c = is_product c.args.x c.args.y _ c.ranges.x.fits c.ranges.y.fits (returns-clause-value c)
