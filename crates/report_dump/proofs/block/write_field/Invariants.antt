use Rattle.std.proofs.Common.{◌≡◌, ◌++◌, ℕ, List}
use Rattle.drm_links.specs.Sink.{OutputsText}
use Rattle.drm_sdc.specs.declared.entity.Entity.{Entity}
use Rattle.report_dump.specs.Block.{HoldsBlock}
use Rattle.report_dump.specs.Text.{field_text}
use Rattle.report_dump.proofs.block.write_field.Given as goal

-- whatever the entities are, what was written and the lines of what is left are all lines
abbrev pub invariant-loop-head : goal.invariant-loop-head
invariant-loop-head g l =
    record {
      so_far : (entities : List Entity) (tail : List ℕ) → HoldsBlock entities tail l.fn.room l.fn.bits → (rest : List Entity) × HoldsBlock rest tail l.left l.bits
          × OutputsText (g.O.Sink.known l.fn.out) (g.O.Sink.known l.out) (λ text. text ++ field_text rest tail ≡ field_text entities tail);
      same : (g.O.Sink.known l.out).faults ≡ (g.O.Sink.known l.fn.out).faults;
    }

abbrev pub decreases-loop-head : goal.decreases-loop-head
decreases-loop-head g l = l.left
