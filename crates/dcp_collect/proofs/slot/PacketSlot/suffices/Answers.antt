use Rattle.std.proofs.Common.{◌+◌, ◌*◌, ◌/◌, ◌∙◌, eqb, sym, ap, ap₂}
use Rattle.dcp_collect.proofs.SlotAnswers.{suffice_is, enough_by}
use Rattle.dcp_collect.proofs.slot.PacketSlot.suffices.Goals as goal

pub returns-in-Some : goal.returns-in-Some
returns-in-Some c =
    let s = c.args.self.now in
    ap₂ (λ a b. eqb s.full (s.form.count * a / (b + 48))) c.from.ensures c.from-in-Some.ensures
    ∙ sym (suffice_is s c.requires ∙ ap (enough_by s) c.in-Some.is)

pub returns-in-None : goal.returns-in-None
returns-in-None c = sym (suffice_is c.args.self.now c.requires ∙ ap (enough_by c.args.self.now) c.in-None.is)
