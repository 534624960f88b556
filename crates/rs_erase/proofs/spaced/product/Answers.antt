use Rattle.std.proofs.Common.{ap, sym, ◌∙◌}
use Rattle.gf_field.specs.Field.{times}
use Rattle.gf_field.proofs.Times.{zero_times}
use Rattle.rs_erase.proofs.spaced.product.Goals as goal

pub returns-then-factor-eq0 : goal.returns-then-factor-eq0
returns-then-factor-eq0 c = sym (ap (λ f. times f c.args.symbol) c.if-factor-eq0.true ∙ zero_times c.args.symbol)
