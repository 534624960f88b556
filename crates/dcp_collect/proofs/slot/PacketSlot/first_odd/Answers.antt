use Rattle.std.proofs.Common.{◌+◌, ◌∙◌, drop, sym, arith}
use Rattle.std.proofs.lemmas.Bool.{false_from_ne_true}
use Rattle.std.proofs.lemmas.List.{get_or-drop}
use Rattle.dcp_collect.specs.View.{is_marked}
use Rattle.dcp_collect.specs.Slots.{head_at}
use Rattle.dcp_collect.proofs.SlotAnswers.{odd_none, odd_alike}
use Rattle.dcp_collect.proofs.slot.PacketSlot.first_odd.Goals as goal

pub returns-then-suits : goal.returns-then-suits
returns-then-suits c =
    sym (odd_alike (head_at c.args.self.now.form) c.args.head (c.suits.ensures c.if-suits.true) 0 c.args.self.now.kept.items)

pub returns : goal.returns
returns c =
    let s = c.args.self.now in
    sym (odd_none (head_at s.form) c.args.head c.loop-index.index (drop c.loop-index.index s.kept.items)
    (λ j. get_or-drop c.loop-index.index s.kept.items j _ ∙ false_from_ne_true (is_marked s.kept.items (c.loop-index.index + j))
    (λ m. let l = c.requires.used.filled.slot.within (c.loop-index.index + j) m in absurd (omega (arith, l, c.loop-index-test.false)))))
    ∙ c.loop-index.invariant
