use Rattle.std.proofs.Common.{◌∙◌, ◌++◌, false, length, replicate, drop, refl, sym, ap}
use Rattle.std.proofs.lemmas.Bool.{false≢true}
use Rattle.dcp_collect.proofs.SlotKeep.{whole_items}
use Rattle.dcp_collect.proofs.SlotAnswers.{filled_empty, marks_cleared, counts_cleared}
use Rattle.dcp_collect.proofs.slot.PacketSlot.begin.Goals as goal

pub returns-clause-none : goal.returns-clause-none
returns-clause-none c =
    let s = c.args.self.now in
    let marks = whole_items s.kept.len c.clear_marks.new.marks s.kept.items (c.clear_marks.auto.marks ∙ c.deref_mut.ensures.len) in
    marks_cleared s.form.count s.kept.items _
    (marks ∙ c.clear_marks.ensures ∙ ap (λ l. replicate s.form.count false ++ drop s.form.count l) c.deref_mut.ensures.value) c.requires.slot.within

pub returns-clause-filled : goal.returns-clause-filled
returns-clause-filled c =
    let s = c.args.self.now in
    let marks = whole_items s.kept.len c.clear_marks.new.marks s.kept.items (c.clear_marks.auto.marks ∙ c.deref_mut.ensures.len) in
    let counts = whole_items s.covered.len c.clear_counters.new.covered s.covered.items (c.clear_counters.auto.covered ∙ c.deref_mut-2.ensures.len) in
    let none = returns-clause-none c in
    filled_empty _ c.args.head c.chunks_of.result c.requires.head
    (record {
      bytes = c.requires.slot.bytes;
      marks = ap length marks ∙ c.clear_marks.auto.marks ∙ ap length c.deref_mut.ensures.value ∙ c.requires.slot.marks;
      counters = ap length counts ∙ c.clear_counters.auto.covered ∙ ap length c.deref_mut-2.ensures.value ∙ c.requires.slot.counters;
      few = c.requires.head.few;
      within = λ i m. absurd (false≢true (sym (none i) ∙ m));
    })
    (record { whole = refl; count = refl; rs = refl; len = λ e. refl })
    none c.chunks_of.ensures.chunks
    (counts_cleared c.chunks_of.result s.covered.items _
    (counts ∙ c.clear_counters.ensures ∙ ap (λ l. replicate c.chunks_of.result 0 ++ drop c.chunks_of.result l) c.deref_mut-2.ensures.value))
    refl refl
