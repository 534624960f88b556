use Rattle.std.proofs.Common.{ℕ, ◌≡◌, ◌+◌, ◌-◌, ◌*◌, ◌/◌, ◌∙◌, List, length, take, sym, ap, subst, rules}
use Rattle.dcp_collect.specs.Decoding.{IsDecoded}
use Rattle.dcp_collect.specs.Slots.{joined_to, slot_fragments}
use Rattle.dcp_collect.proofs.SlotKeep.{used_with, whole_items}
use Rattle.dcp_collect.proofs.SlotSolved.{made_by, lacks_by, stand_by, len_small, slot_count, slot_had, slot_whole, slot_alone}
use Rattle.dcp_collect.proofs.Joining.{joined_decoded, all_there}
use Rattle.dcp_collect.specs.Sizes.{most_bytes}
use Rattle.dcp_collect.proofs.slot.PacketSlot.solve.Goals as goal

pub returns-then-not-suffices-clause-made : goal.returns-then-not-suffices-clause-made
returns-then-not-suffices-clause-made c =
    (sym c.suffices.ensures ∙ c.if-not-suffices.true, slot_had c.args.self.now c.requires.used, slot_count c.args.self.now c.requires.used)

pub solve_chunks-requires : goal.solve_chunks-requires
solve_chunks-requires c = record {
  some = search rules;
  many = search rules;
  few = search rules;
  size = search rules;
  room = search rules;
  marks = search rules;
  enough = stand_by c.args.self.now c.in-Some.rs c.requires.used c.in-Some.is c.from-k.result c.from.result c.deref.result.now c.from-k.ensures c.from.ensures c.deref.ensures.value
      (sym c.suffices.ensures ∙ c.if-not-suffices.false);
}

pub join-requires : goal.join-requires
join-requires c = record {
  room = search rules;
  some = search rules;
  few = search rules;
  plain = search rules;
  sizes = λ i l.
      c.requires.used.filled.sizes i (all_there c.args.self.now c.requires.used c.in-None.is (sym c.suffices.ensures ∙ c.if-not-suffices.false) i l);
}

pub returns-then-solve_chunks-clause-made : goal.returns-then-solve_chunks-clause-made
returns-then-solve_chunks-clause-made c =
    let s = c.args.self.now in
    let whole = whole_items s.bytes.len c.solve_chunks.new.bytes s.bytes.items (c.solve_chunks.ensures.same_length ∙ c.deref_mut.ensures.len) in
    let long : length c.solve_chunks.new.bytes ≡ most_bytes = c.solve_chunks.ensures.same_length ∙ ap length c.deref_mut.ensures.value ∙ c.requires.used.filled.slot.bytes in (
      sym c.suffices.ensures ∙ c.if-not-suffices.false,
      len_small s c.in-Some.rs c.requires.used c.in-Some.is c.from-k.result c.from.result c.from-then-solve_chunks.result c.from-k.ensures c.from.ensures,
      subst (λ (b : List ℕ). IsDecoded (slot_fragments s) (take (s.form.count * c.from.result / (c.from-k.result + 48) * c.from-k.result - c.from-then-solve_chunks.result) b)) (sym whole)
          (made_by s c.in-Some.rs c.requires.used c.in-Some.is c.from-k.result c.from.result c.from-then-solve_chunks.result c.deref.result.now c.deref_mut.result.now c.solve_chunks.new.bytes
          c.from-k.ensures c.from.ensures c.from-then-solve_chunks.ensures c.deref.ensures.value c.deref_mut.ensures.value long
          (c.solve_chunks.ensures.found c.if-solve_chunks.true (slot_fragments s))),
      slot_whole s c.requires.used,
      slot_alone s c.requires.used,
    )

pub returns-else-solve_chunks-clause-made : goal.returns-else-solve_chunks-clause-made
returns-else-solve_chunks-clause-made c =
    let s = c.args.self.now in (
      sym c.suffices.ensures ∙ c.if-not-suffices.false,
      lacks_by s c.in-Some.rs c.requires.used c.in-Some.is c.from-k.result c.from.result c.deref.result.now c.deref_mut.result.now
          c.from-k.ensures c.from.ensures c.deref.ensures.value c.deref_mut.ensures.value (c.solve_chunks.ensures.lacks c.if-solve_chunks.false (slot_fragments s)),
    )

pub returns-in-None-clause-made : goal.returns-in-None-clause-made
returns-in-None-clause-made c =
    let s = c.args.self.now in
    let enough = sym c.suffices.ensures ∙ c.if-not-suffices.false in
    let whole = whole_items s.bytes.len c.join.new.bytes s.bytes.items (c.join.ensures.same_length ∙ c.deref_mut-in-None.ensures.len) in (
      enough,
      c.join.ensures.within_limit,
      joined_decoded s _ c.requires.used c.in-None.is enough
          (ap (take c.join.result) whole ∙ c.join.ensures.joined ∙ ap (λ b. joined_to s.form b s.form.count) c.deref_mut-in-None.ensures.value),
      slot_whole s c.requires.used,
      slot_alone s c.requires.used,
    )

pub returns-then-solve_chunks-clause-used : goal.returns-then-solve_chunks-clause-used
returns-then-solve_chunks-clause-used c =
    used_with c.args.self.now c.solve_chunks.new.bytes (c.solve_chunks.ensures.same_length ∙ c.deref_mut.ensures.len)
    (c.solve_chunks.ensures.same_length ∙ ap length c.deref_mut.ensures.value ∙ c.requires.used.filled.slot.bytes) c.requires.used

pub returns-else-solve_chunks-clause-used : goal.returns-else-solve_chunks-clause-used
returns-else-solve_chunks-clause-used c =
    used_with c.args.self.now c.solve_chunks.new.bytes (c.solve_chunks.ensures.same_length ∙ c.deref_mut.ensures.len)
    (c.solve_chunks.ensures.same_length ∙ ap length c.deref_mut.ensures.value ∙ c.requires.used.filled.slot.bytes) c.requires.used

pub returns-in-None-clause-used : goal.returns-in-None-clause-used
returns-in-None-clause-used c =
    used_with c.args.self.now c.join.new.bytes (c.join.ensures.same_length ∙ c.deref_mut-in-None.ensures.len)
    (c.join.ensures.same_length ∙ ap length c.deref_mut-in-None.ensures.value ∙ c.requires.used.filled.slot.bytes) c.requires.used
