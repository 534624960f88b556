use Rattle.std.proofs.Common.{◌∙◌, sym, ap, None}
use Rattle.dcp_collect.specs.CollectorState.{answer_by}
use Rattle.dcp_collect.specs.View.{is_marked}
use Rattle.dcp_collect.proofs.SlotAnswers.{answer_odd, answer_even}
use Rattle.dcp_collect.proofs.slot.PacketSlot.answer.Goals as goal

pub returns-in-Some : goal.returns-in-Some
returns-in-Some c =
    sym (answer_odd c.args.self.now c.args.head c.in-Some.kept (sym c.suffices.ensures ∙ c.if-suffices.false) (sym c.first_odd.ensures ∙ c.in-Some.is))

pub returns-then-is_kept : goal.returns-then-is_kept
returns-then-is_kept c =
    sym (answer_even c.args.self.now c.args.head (sym c.suffices.ensures ∙ c.if-suffices.false) (sym c.first_odd.ensures ∙ c.in_default.is)
    ∙ ap (λ b. answer_by None b c.args.head) (ap (λ l. is_marked l c.args.head.index) (sym c.deref.ensures.value) ∙ sym c.is_kept.ensures ∙ c.if-is_kept.true))

pub returns-else-is_kept : goal.returns-else-is_kept
returns-else-is_kept c =
    sym (answer_even c.args.self.now c.args.head (sym c.suffices.ensures ∙ c.if-suffices.false) (sym c.first_odd.ensures ∙ c.in_default.is)
    ∙ ap (λ b. answer_by None b c.args.head) (ap (λ l. is_marked l c.args.head.index) (sym c.deref.ensures.value) ∙ sym c.is_kept.ensures ∙ c.if-is_kept.false))
