use Rattle.std.proofs.Common.{ap, sym, ◌∙◌}
use Rattle.gf_field.specs.Field.{times}
use Rattle.gf_field.proofs.TableEntries.{inverse_is}
use Rattle.gf_field.proofs.Times.{is_product}
use Rattle.gf_field.proofs.tables.inverse_of.Goals as goal

pub returns-clause-value : goal.returns-clause-value
returns-clause-value c = ap (times c.args.x) c.inverse_at.ensures.value ∙ inverse_is c.args.x c.requires c.ranges.x.fits

pub returns-clause-product : goal.returns-clause-product
returns-clause-product c = is_product c.args.x c.inverse_at.result 1 c.ranges.x.fits c.inverse_at.ensures.element (sym (returns-clause-value c))
