use Rattle.std.proofs.Common.{◌≡◌, ◌++◌, sym, ap, subst, refl, ◌∙◌}
use Rattle.std.proofs.lemmas.Result.{err_from_is_err_and}
use Rattle.drm_links.specs.Sink.{OutputsText}
use Rattle.drm_links.proofs.KnownLemmas.{done_counts, OutputsText-nothing}
use Rattle.drm_links.proofs.WritingLemmas.{Writes-whole, Writes-broken, Writes-more}
use Rattle.dcp_tag.specs.PayloadPlace.{left}
use Rattle.report_dump.specs.PacketContent.{AreItems}
use Rattle.report_dump.specs.Lines.{tag_text}
use Rattle.report_dump.specs.Text.{items_text}
use Rattle.report_dump.proofs.ItemLemmas.{item_given, text_then, all_items}
use Rattle.report_dump.proofs.tags.write_tags.Goals as goal

pub loop-item-init : goal.loop-item-init
loop-item-init g c =
    record {
      so_far = λ items are. (
        items,
        subst (AreItems items) (sym (ap left c.new-items.ensures)) are,
        OutputsText-nothing (g.O.Sink.known c.args.out.now) (λ text. text ++ items_text items ≡ items_text items) refl,
      );
      same = refl;
    }

pub returns-in_err-write_tag : goal.returns-in_err-write_tag
returns-in_err-write_tag g c = λ items are.
    let p = err_from_is_err_and c.from_residual.result c.from_residual.ensures.1 in
    let a = g.O.Sink.known c.args.out.now in
    let b = g.O.Sink.known c.loop-item.out in
    let so = c.loop-item.invariant.so_far items are in
    let item = c.in-Some.item in
    let gives = c.in-Some.ensures.item in
    let next = item_given so.0 c.loop-item.items c.next.new.items item so.1 gives in
    rw p.1
    (Writes-broken (items_text items) (tag_text item.name item.bits) (items_text next.0) a b (g.O.Sink.known c.write_tag.new.out) c.write_tag.result c.in_err-write_tag.field-0.0 p.0
    (subst (λ l. OutputsText a b (λ text. text ++ l ≡ items_text items)) (text_then so.0 next.0 item c.loop-item.items c.next.new.items next.1 gives) so.2)
    c.loop-item.invariant.same c.in_err-write_tag.was c.write_tag.ensures)

pub loop-item-preserved : goal.loop-item-preserved
loop-item-preserved g c =
    record {
      so_far = λ items are.
          let a = g.O.Sink.known c.args.out.now in
          let b = g.O.Sink.known c.loop-item.out in
          let so = c.loop-item.invariant.so_far items are in
          let item = c.in-Some.item in
          let gives = c.in-Some.ensures.item in
          let next = item_given so.0 c.loop-item.items c.next.new.items item so.1 gives in (
            next.0,
            next.2,
            Writes-more (items_text items) (tag_text item.name item.bits) (items_text next.0) a b (g.O.Sink.known c.write_tag.new.out) c.write_tag.result _
                (subst (λ l. OutputsText a b (λ text. text ++ l ≡ items_text items)) (text_then so.0 next.0 item c.loop-item.items c.next.new.items next.1 gives) so.2)
                c.in_ok-write_tag.was c.write_tag.ensures,
          );
      same = done_counts c.in_ok-write_tag.was c.write_tag.ensures.cause ∙ c.loop-item.invariant.same;
    }

pub returns : goal.returns
returns g c = λ items are.
    let a = g.O.Sink.known c.args.out.now in
    let b = g.O.Sink.known c.loop-item.out in
    let so = c.loop-item.invariant.so_far items are in
    Writes-whole (items_text items) a b (all_items items so.0 (left c.loop-item.items) a b so.1 c.in_default.ensures.none so.2) c.loop-item.invariant.same
