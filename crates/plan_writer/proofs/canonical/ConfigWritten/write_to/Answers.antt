use Rattle.std.specs.List.{flat_map}
use Rattle.plan_grammar.specs.declared.line.Line.TheVariants as lines
use Rattle.plan_writer.specs.Canonical.{settings_lines, service_lines, stream_lines, clock_lines, block_lines}
use Rattle.plan_writer.proofs.TextLemmas.{text_mapped, text_joined, five_written}
use Rattle.plan_writer.proofs.canonical.ConfigWritten.write_to.Goals as goal

pub returns : goal.returns
returns c =
    let config = c.args.self.now in
    five_written (settings_lines config) (service_lines config.services) (stream_lines config.streams) (clock_lines config.clock) (flat_map block_lines config.blocks)
    _ _ _ _ _ _
    c.in_ok-write_settings.ensures
    (rw (c.as_slice.ensures, text_mapped (λ s. lines.Service s) config.services) at c.in_ok-write_all.ensures)
    (rw (c.as_slice-2.ensures, text_mapped (λ s. lines.Stream s) config.streams) at c.in_ok-write_all-2.ensures)
    c.in_ok-write_clock.ensures
    (rw (c.as_slice-3.ensures, text_joined block_lines config.blocks) at c.in_ok-write_all-3.ensures)
