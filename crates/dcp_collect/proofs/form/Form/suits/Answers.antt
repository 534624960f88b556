use Rattle.std.proofs.Common.{◌∙◌, ap, sym}
use Rattle.std.proofs.lemmas.Bool.{leb-true}
use Rattle.dcp_collect.specs.Fragments.{agree}
use Rattle.dcp_collect.proofs.SlotForms.{form_suits}
use Rattle.dcp_collect.proofs.form.Form.suits.Goals as goal

pub returns-then-agrees_with : goal.returns-then-agrees_with
returns-then-agrees_with c = λ is.
    form_suits c.args.self c.args.head (ap (λ h. agree h c.args.head) (sym c.head.ensures) ∙ sym c.agrees_with.ensures ∙ c.if-agrees_with.true)
    (leb-true c.args.self.last c.args.self.len is)
