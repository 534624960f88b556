use Rattle.std.proofs.Common.{[], rules}
use Rattle.std.specs.List.{flat_map}
use Rattle.plan_writer.specs.Canonical.{front_lines, config_lines}
use Rattle.plan_writer.proofs.TextLemmas.{text_joined, both_written}
use Rattle.plan_writer.proofs.canonical.write_plan.Goals as goal

pub returns : goal.returns
returns c =
    let plan = c.args.plan.now in
    let text =
    both_written (front_lines plan) (flat_map config_lines plan.configs) [] c.write_front.new.out.items c.write_all.new.out.items
    (rw c.new-out.ensures.items at c.in_ok-write_front.ensures)
    (rw (c.as_slice.ensures, c.configs.ensures, text_joined config_lines plan.configs) at c.in_ok-write_all.ensures) in
    search rules
