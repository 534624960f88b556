use Rattle.std.proofs.Common.{List, sym, subst}
use Rattle.drm_sdc.specs.declared.entity.Entity.{Entity}
use Rattle.drm_schedule.proofs.InForceLemmas.{AreOfLines, of_those_in_force, each_of_lines}
use Rattle.drm_schedule.proofs.sizes.free_len.Goals as goal

of_lines : (c : goal.After-entities_in_force) → AreOfLines c.entities_in_force.result.now
of_lines c =
    let P : List Entity → Type 0 = λ entities. AreOfLines entities in
    subst P (sym c.entities_in_force.ensures)
    (of_those_in_force P c.args.config.now c.args.frame c.requires.some_block (each_of_lines c.args.config.now.blocks c.requires.each_block))

pub len_with-requires-clause-within_limit : goal.len_with-requires-clause-within_limit
len_with-requires-clause-within_limit c = (of_lines c).0

pub len_with-requires-clause-each : goal.len_with-requires-clause-each
len_with-requires-clause-each c = (of_lines c).1
