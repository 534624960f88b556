use Rattle.std.proofs.Common.{◌≡◌, ◌++◌, List, length}
use Rattle.drm_links.specs.Sink.{OutputsText}
use Rattle.dcp_tag.specs.Tag.{TagItem}
use Rattle.dcp_tag.specs.PayloadPlace.{left}
use Rattle.report_dump.specs.PacketContent.{AreItems}
use Rattle.report_dump.specs.Text.{items_text}
use Rattle.report_dump.proofs.tags.write_tags.Given as goal

-- whatever the items are, what was written and the lines of those that are left are their lines
abbrev pub invariant-loop-item : goal.invariant-loop-item
invariant-loop-item g l =
    record {
      so_far : (items : List TagItem) → AreItems items l.fn.payload → (rest : List TagItem) × AreItems rest (left l.items)
          × OutputsText (g.O.Sink.known l.fn.out) (g.O.Sink.known l.out) (λ text. text ++ items_text rest ≡ items_text items);
      same : (g.O.Sink.known l.out).faults ≡ (g.O.Sink.known l.fn.out).faults;
    }

abbrev pub decreases-loop-item : goal.decreases-loop-item
decreases-loop-item g l = length (left l.items)
