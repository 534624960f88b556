use Rattle.std.proofs.Common.{ap, ap₂, sym, ◌∙◌, ◌+◌, ◌*◌, ℕ, get_or, bit_xor}
use Rattle.std.proofs.lemmas.Nat.{xor_of_8}
use Rattle.gf_field.specs.Field.{times}
use Rattle.gf_field.specs.declared.quotients.TheConstants.{QUOTIENTS}
use Rattle.gf_field.proofs.TableProducts.{quotient_is}
use Rattle.gf_field.proofs.Times.{is_product}
use Rattle.gf_field.proofs.tables.quotient_of.Goals as goal

pub returns-clause-value : goal.returns-clause-value
returns-clause-value c =
    ap (λ (q : ℕ). times q c.args.y)
    (ap₂ bit_xor
    (c.nibble_quotient.ensures.value ∙ ap₂ (λ (m n : ℕ). get_or QUOTIENTS (32 * m + n) 0) c.from-row.ensures c.from.ensures)
    (c.nibble_quotient-2.ensures.value ∙ ap₂ (λ (m n : ℕ). get_or QUOTIENTS (32 * m + 16 + n) 0) c.from-row.ensures c.from-2.ensures))
    ∙ quotient_is c.args.y c.args.x c.requires c.ranges.y.fits c.ranges.x.fits

pub returns-clause-product : goal.returns-clause-product
returns-clause-product c =
    is_product (bit_xor c.nibble_quotient.result c.nibble_quotient-2.result) c.args.y c.args.x
    (xor_of_8 c.nibble_quotient.result c.nibble_quotient-2.result c.nibble_quotient.ensures.element c.nibble_quotient-2.ensures.element) c.ranges.y.fits (sym (returns-clause-value c))
