use Rattle.std.proofs.Common.{ℕ, ◌≡◌, ◌+◌, ◌∙◌, true, false, cond, drop, sym, ap, arith}
use Rattle.std.proofs.lemmas.Bool.{false_from_ne_true}
use Rattle.std.proofs.lemmas.List.{get_or-drop}
use Rattle.dcp_collect.specs.View.{is_marked}
use Rattle.dcp_collect.specs.Slots.{len_at}
use Rattle.dcp_collect.proofs.SlotHeld.{lens_none, lens_step, held_is}
use Rattle.dcp_collect.proofs.Joining.{len_fits}
use Rattle.dcp_collect.proofs.slot.PacketSlot.held.Goals.{then-is_kept, else-is_kept}
use Rattle.dcp_collect.proofs.slot.PacketSlot.held.Goals as goal

pub loop-index-preserved : goal.loop-index-preserved
loop-index-preserved c =
    let s = c.args.self.now in
    let index = c.loop-index.index in
    let i = c.loop-index.invariant in
    let l = c.loop-index-test.true in
    let step = lens_step s.form index s.kept.items (let a = c.requires.filled.slot.few in let b = c.requires.filled.slot.marks in omega (arith, a, b, l)) in
    let sum = i.sum in
    let small = i.small in
    elim c.if-is_kept.branch [
      | then-is_kept w ↦
          let mark : is_marked s.kept.items index ≡ true = ap (λ k. is_marked k index) (sym c.deref.ensures.value) ∙ sym c.is_kept.ensures ∙ w.if-is_kept.true in
          let here : ◌≡◌ {A = ℕ} (cond (is_marked s.kept.items index) (len_at s.form index) 0) (len_at s.form index) = ap (λ b. cond b (len_at s.form index) 0) mark in
          let len : w.from-sum.result ≡ len_at s.form index = w.from-sum.ensures ∙ ap (λ h. h.len) w.head.ensures in
          let fits = len_fits s.form index c.requires.filled.some (c.requires.filled.sizes index mark) in
          let is = w.sum-is in
          record { sum = omega (arith, step, sum, here, len, is); small = omega (arith, small, fits, len, is) }
      | else-is_kept w ↦
          let mark : is_marked s.kept.items index ≡ false = ap (λ k. is_marked k index) (sym c.deref.ensures.value) ∙ sym c.is_kept.ensures ∙ w.if-is_kept.false in
          let here : ◌≡◌ {A = ℕ} (cond (is_marked s.kept.items index) (len_at s.form index) 0) 0 = ap (λ b. cond b (len_at s.form index) 0) mark in
          let is = w.sum-is in
          record { sum = omega (arith, step, sum, here, is); small = omega (arith, small, is) }
    ]

pub returns-clause-held : goal.returns-clause-held
returns-clause-held c =
    let s = c.args.self.now in
    let index = c.loop-index.index in
    let none = lens_none s.form index (drop index s.kept.items)
    (λ j. get_or-drop index s.kept.items j _ ∙ false_from_ne_true (is_marked s.kept.items (index + j))
    (λ m. let l = c.requires.filled.slot.within (index + j) m in absurd (omega (arith, l, c.loop-index-test.false)))) in
    let sum = c.loop-index.invariant.sum in
    let h = held_is s in
    omega (arith, none, sum, h)
