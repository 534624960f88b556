use Rattle.std.proofs.Common.{◌≡◌, ◌+◌, ◌-◌, ◌*◌, ◌++◌, ℕ, List, sym, ap, subst, ◌∙◌, refl, length, take, drop, arith, length-drop}
use Rattle.std.proofs.lemmas.Result.{err_from_is_err_and}
use Rattle.drm_links.specs.Sink.{OutputsText}
use Rattle.drm_links.proofs.KnownLemmas.{done_counts, OutputsText-nothing}
use Rattle.drm_links.proofs.WritingLemmas.{Writes-broken, Writes-more}
use Rattle.report_dump.specs.Block.{HoldsBlock, head_text}
use Rattle.report_dump.specs.Lines.{tail_text}
use Rattle.report_dump.specs.Text.{field_text}
use Rattle.report_dump.proofs.BlockLemmas.{next_entity, enough_bits, at_tail, text_next, text_last}
use Rattle.report_dump.proofs.WritingLemmas.{last_written}
use Rattle.report_dump.proofs.block.write_field.Goals as goal

pub loop-head-init : goal.loop-head-init
loop-head-init g c =
    record {
      so_far = λ entities tail holds. (
        entities,
        holds,
        OutputsText-nothing (g.O.Sink.known c.args.out.now) (λ text. text ++ field_text entities tail ≡ field_text entities tail) refl,
      );
      same = refl;
    }

pub next_head-requires : goal.next_head-requires
next_head-requires g c =
    let f = c.requires.field in
    let so = c.loop-head.invariant.so_far f.0 f.1 f.2 in
    enough_bits so.0 f.1 c.loop-head.left c.loop-head.bits so.1

pub write_entity-requires-clause-body : goal.write_entity-requires-clause-body
write_entity-requires-clause-body g c =
    let f = c.requires.field in
    let so = c.loop-head.invariant.so_far f.0 f.1 f.2 in
    let next = next_entity so.0 f.1 c.loop-head.left c.in-Some.head c.loop-head.bits so.1 c.in-Some.ensures.found.0 c.in-Some.ensures.head c.in-Some.ensures.found.1 in
    omega (arith, next.within, enough_bits so.0 f.1 c.loop-head.left c.loop-head.bits so.1, ap length c.in-Some.ensures.rest, length-drop 16 c.loop-head.bits)

pub overflow_sub-left : goal.overflow_sub-left
overflow_sub-left g c =
    let f = c.requires.field in
    let so = c.loop-head.invariant.so_far f.0 f.1 f.2 in
    let next = next_entity so.0 f.1 c.loop-head.left c.in-Some.head c.loop-head.bits so.1 c.in-Some.ensures.found.0 c.in-Some.ensures.head c.in-Some.ensures.found.1 in
    omega (arith, next.within, c.from.ensures)

pub returns-in_err-write_entity : goal.returns-in_err-write_entity
returns-in_err-write_entity g c = λ entities tail holds.
    let p = err_from_is_err_and c.from_residual.result c.from_residual.ensures.1 in
    let a = g.O.Sink.known c.args.out.now in
    let b = g.O.Sink.known c.loop-head.out in
    let h = c.in-Some.head in
    let so = c.loop-head.invariant.so_far entities tail holds in
    let next = next_entity so.0 tail c.loop-head.left h c.loop-head.bits so.1 c.in-Some.ensures.found.0 c.in-Some.ensures.head c.in-Some.ensures.found.1 in
    let line : List ℕ = head_text h (take (8 * h.len) (drop 16 c.loop-head.bits)) in
    rw p.1
    (Writes-broken (field_text entities tail) line (field_text next.rest tail) a b (g.O.Sink.known c.write_entity.new.out) c.write_entity.result c.in_err-write_entity.field-0.0 p.0
    (subst (λ l. OutputsText a b (λ text. text ++ l ≡ field_text entities tail)) (text_next so.0 next.rest tail next.e line next.are next.line) so.2)
    c.loop-head.invariant.same c.in_err-write_entity.was (rw c.in-Some.ensures.rest at c.write_entity.ensures.written))

pub loop-head-preserved : goal.loop-head-preserved
loop-head-preserved g c =
    record {
      so_far = λ entities tail holds.
          let a = g.O.Sink.known c.args.out.now in
          let b = g.O.Sink.known c.loop-head.out in
          let h = c.in-Some.head in
          let so = c.loop-head.invariant.so_far entities tail holds in
          let next = next_entity so.0 tail c.loop-head.left h c.loop-head.bits so.1 c.in-Some.ensures.found.0 c.in-Some.ensures.head c.in-Some.ensures.found.1 in
          let line : List ℕ = head_text h (take (8 * h.len) (drop 16 c.loop-head.bits)) in
          let after : c.write_entity.new.bits ≡ drop (8 * h.len) (drop 16 c.loop-head.bits) = c.in_ok-write_entity.ensures.rest ∙ ap (drop (8 * h.len)) c.in-Some.ensures.rest in (
            next.rest,
            subst (λ n. HoldsBlock next.rest tail (c.loop-head.left - (2 + n)) c.write_entity.new.bits) (sym c.from.ensures)
                (subst (HoldsBlock next.rest tail (c.loop-head.left - (2 + h.len))) (sym after) next.others),
            Writes-more (field_text entities tail) line (field_text next.rest tail) a b (g.O.Sink.known c.write_entity.new.out) c.write_entity.result _
                (subst (λ l. OutputsText a b (λ text. text ++ l ≡ field_text entities tail)) (text_next so.0 next.rest tail next.e line next.are next.line) so.2)
                c.in_ok-write_entity.was (rw c.in-Some.ensures.rest at c.write_entity.ensures.written),
          );
      same = done_counts c.in_ok-write_entity.was c.write_entity.ensures.written.cause ∙ c.loop-head.invariant.same;
    }

pub returns : goal.returns
returns g c = λ entities tail holds.
    let a = g.O.Sink.known c.args.out.now in
    let b = g.O.Sink.known c.loop-head.out in
    let so = c.loop-head.invariant.so_far entities tail holds in
    let end = at_tail so.0 tail c.loop-head.left c.loop-head.bits so.1 c.in_default.ensures.tail in
    last_written (field_text entities tail) (tail_text c.loop-head.left) a b (g.O.Sink.known c.write_tail.new.out) c.write_tail.result
    (subst (λ l. OutputsText a b (λ text. text ++ l ≡ field_text entities tail)) (text_last so.0 tail c.loop-head.left end.0 end.1) so.2)
    c.loop-head.invariant.same c.write_tail.ensures
