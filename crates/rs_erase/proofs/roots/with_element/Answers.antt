use Rattle.std.proofs.Common.{◌∙◌, sym}
use Rattle.rs_erase.specs.Rows.{listed}
use Rattle.rs_erase.proofs.FirstRemainders.{one_first, zero_first}
use Rattle.rs_erase.proofs.roots.with_element.Goals as goal

pub returns-then-element-eq0 : goal.returns-then-element-eq0
returns-then-element-eq0 c = λ word long is h. zero_first word (listed c.args.remainder) c.args.j c.requires long (sym c.if-element-eq0.true ∙ is) h

pub returns : goal.returns
returns c = λ word long is h.
    one_first word (listed c.args.remainder) (listed c.power_remainder.result) (listed c.plus_multiple.result) c.args.element c.args.j c.requires long is
    c.power_remainder.ensures c.plus_multiple.ensures h
