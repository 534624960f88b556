use Rattle.std.proofs.Common.{append_assoc}
use Rattle.plan_grammar.specs.declared.line.Line.TheVariants as lines
use Rattle.plan_grammar.specs.Said.{line_text}
use Rattle.plan_writer.specs.Canonical.{text_of, entity_lines}
use Rattle.plan_writer.proofs.TextLemmas.{text_mapped, text_cons}
use Rattle.plan_writer.proofs.canonical.TimedWritten.write_to.Goals as goal

pub returns : goal.returns
returns c =
    let block = c.args.self.now in
    let block_line = lines.Block block.from in
    let entities = entity_lines block.entities in
    rw (c.in_ok-write_all.ensures, c.as_slice.ensures, c.in_ok-write_line.ensures, text_mapped (λ e. lines.Entity e) block.entities, text_cons block_line entities)
    (append_assoc c.args.out.now.items (line_text block_line) (text_of entities))
