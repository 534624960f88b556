use Rattle.std.proofs.Common.{ℕ, ◌≡◌, ◌+◌, ◌*◌, ◌∙◌, List, true, false, length, get_or, slice_set, refl, sym, subst, ap, ap₂, arith}
use Rattle.std.specs.Prelude.{IfSome}
use Rattle.std.specs.Vec.{with_items}
use Rattle.std.proofs.lemmas.List.{get_or-set_same}
use Rattle.dcp_collect.specs.declared.slot.PacketSlot.{PacketSlot}
use Rattle.dcp_collect.specs.View.{is_marked}
use Rattle.dcp_collect.specs.Slots.{IsCountedTo, CountsOneMore, IsFullTo, start_at, step_at}
use Rattle.dcp_collect.proofs.Covering.{size_few}
use Rattle.dcp_collect.proofs.SlotBytes.{start_in}
use Rattle.dcp_collect.proofs.SlotKeep.{whole_items, filled_after, kept_after, room_for, step_some, counted_before}
use Rattle.dcp_collect.proofs.slot.PacketSlot.keep.Goals as goal

pub overflow_add-self : goal.overflow_add-self
overflow_add-self c =
    let s = c.args.self.now in
    let f = c.requires.filled in
    let few = size_few s.form.count (is_marked s.kept.items) in
    omega (arith, few, f.had, f.slot.few)

pub store-requires : goal.store-requires
store-requires c =
    let long = ap length c.deref_mut.ensures.value in
    let of = c.with-form.ensures.form.count in
    let i = c.requires.piece.head.index in
    let f = c.requires.piece.head.few in
    let first = start_in c.with-form.result c.args.head.index (omega (arith, i, of)) (omega (arith, f, of)) in
    let some = step_some c.with-form.result c.args.head c.requires.piece.head c.with-form.ensures.form in
    record {
      room = λ j l.
          let at = ap₂ (λ a b. a + j * b) c.start.ensures c.step.ensures in
          let room = room_for c.with-form.result c.args.head c.requires.piece.head c.with-form.ensures.form c.with-form.ensures.head j (omega (arith, l, c.requires.piece.len)) in
          omega (arith, at, room, long, c.requires.filled.slot.bytes);
      start = omega (arith, first, c.start.ensures, long, c.requires.filled.slot.bytes);
      step = omega (arith, some, c.step.ensures);
    }

pub cover_by-self-requires : goal.cover_by-self-requires
cover_by-self-requires c = record {
  head = c.requires.piece.head;
  room = (let long = ap length c.deref_mut-3.ensures.value in omega (arith, long, c.requires.filled.slot.counters));
  before = subst (λ (l : List ℕ). IfSome c.args.head.rs (IsCountedTo c.args.head l c.args.self.now.full)) (sym c.deref_mut-3.ensures.value)
      (counted_before c.args.self.now c.args.head c.requires.filled c.requires.form);
}

pub returns-clause-filled : goal.returns-clause-filled
returns-clause-filled c =
    let s = c.args.self.now in
    let head = c.args.head in
    let marks = whole_items s.kept.len c.mark.new.marks s.kept.items (c.mark.auto.marks ∙ c.deref_mut-2.ensures.len) in
    let counts = whole_items s.covered.len c.cover_by-self.new.covered s.covered.items (c.cover_by-self.ensures.same_length ∙ c.deref_mut-3.ensures.len) in
    let bytes = whole_items s.bytes.len c.store.new.bytes s.bytes.items (c.store.ensures.same_length ∙ c.deref_mut.ensures.len) in
    let more : IfSome head.rs (CountsOneMore head s.covered.items c.cover_by-self.new.covered)
    = subst (λ (l : List ℕ). IfSome head.rs (CountsOneMore head l c.cover_by-self.new.covered)) c.deref_mut-3.ensures.value c.cover_by-self.ensures.counted in
    filled_after s _ head c.args.payload.now c.requires.filled c.requires.piece.head c.requires.piece.len c.requires.form c.requires.alike c.requires.new
    c.with-form.ensures.form c.with-form.ensures.head c.with-form.ensures.others refl
    (marks ∙ c.mark.ensures ∙ ap (λ l. slice_set l head.index true) c.deref_mut-2.ensures.value)
    (ap length bytes ∙ c.store.ensures.same_length ∙ ap length c.deref_mut.ensures.value ∙ c.requires.filled.slot.bytes)
    (ap length counts ∙ c.cover_by-self.ensures.same_length ∙ ap length c.deref_mut-3.ensures.value ∙ c.requires.filled.slot.counters)
    refl
    (subst (λ (l : List ℕ). IfSome head.rs (CountsOneMore head s.covered.items l)) (sym counts) more)
    (subst (λ (l : List ℕ). IfSome head.rs (IsFullTo head l c.cover_by-self.result)) (sym counts) c.cover_by-self.ensures.full)

pub returns-clause-kept : goal.returns-clause-kept
returns-clause-kept c =
    let s = c.args.self.now in
    let head = c.args.head in
    let form = c.with-form.result in
    let marks = whole_items s.kept.len c.mark.new.marks s.kept.items (c.mark.auto.marks ∙ c.deref_mut-2.ensures.len) in
    let bytes = whole_items s.bytes.len c.store.new.bytes s.bytes.items (c.store.ensures.same_length ∙ c.deref_mut.ensures.len) in
    let at : (j : ℕ) → c.start.result + j * c.step.result ≡ start_at form head.index + j * step_at form
    = λ j. ap₂ (λ a b. a + j * b) c.start.ensures c.step.ensures in
    let after : PacketSlot = record {
      number = s.number;
      form = form;
      kept = with_items s.kept c.mark.new.marks;
      had = s.had + 1;
      covered = with_items s.covered c.cover_by-self.new.covered;
      full = c.cover_by-self.result;
      bytes = with_items s.bytes c.store.new.bytes;
    } in
    kept_after s after head c.args.payload.now c.requires.filled c.requires.piece.head c.requires.piece.len c.requires.form c.requires.alike c.requires.new
    c.with-form.ensures.form c.with-form.ensures.head c.with-form.ensures.others refl
    (marks ∙ c.mark.ensures ∙ ap (λ l. slice_set l head.index true) c.deref_mut-2.ensures.value)
    (λ j l. ap₂ (λ xs p. get_or xs p 0) bytes (sym (at j)) ∙ c.store.ensures.there j l)
    (λ p apart. ap (λ xs. get_or xs p 0) bytes ∙ c.store.ensures.others p (λ j l e. apart j l (e ∙ at j)) ∙ ap (λ xs. get_or xs p 0) c.deref_mut.ensures.value)

pub returns-clause-marked : goal.returns-clause-marked
returns-clause-marked c =
    let s = c.args.self.now in
    let marks = whole_items s.kept.len c.mark.new.marks s.kept.items (c.mark.auto.marks ∙ c.deref_mut-2.ensures.len) in
    let long = ap length c.deref_mut-2.ensures.value in
    ap (λ l. is_marked l c.args.head.index) (marks ∙ c.mark.ensures)
    ∙ get_or-set_same c.deref_mut-2.result.now c.args.head.index true false
    (omega (arith, long, c.requires.filled.slot.marks, c.requires.piece.head.index, c.requires.piece.head.few))
