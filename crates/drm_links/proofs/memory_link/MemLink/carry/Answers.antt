use Rattle.std.proofs.Common.{inl, inr, arith}
use Rattle.std.proofs.lemmas.Grind.{common_steps}
use Rattle.drm_links.proofs.memory_link.MemLink.carry.Goals as goal
use Rattle.drm_links.proofs.memory_link.MemLink.carry.Goals.{then-bytes-gt-LONGEST_KEPT-via-then-bytes-gt-LONGEST_KEPT, then-bytes-gt-LONGEST_KEPT-via-else-bytes-gt-LONGEST_KEPT+then-is_empty, then-bytes-gt-LONGEST_KEPT-via-else-bytes-gt-LONGEST_KEPT+else-is_empty+then-is_listed}

pub returns-then-bytes-gt-LONGEST_KEPT-clause-exact : goal.returns-then-bytes-gt-LONGEST_KEPT-clause-exact
returns-then-bytes-gt-LONGEST_KEPT-clause-exact c =
    rw (← c.self.view_is) (
      elim c.then-bytes-gt-LONGEST_KEPT.branch [
        | then-bytes-gt-LONGEST_KEPT-via-then-bytes-gt-LONGEST_KEPT w ↦ inr (inr w.if-bytes-gt-LONGEST_KEPT.true)
        | then-bytes-gt-LONGEST_KEPT-via-else-bytes-gt-LONGEST_KEPT+then-is_empty w ↦ inr (inl (grind (arith, common_steps)))
        | then-bytes-gt-LONGEST_KEPT-via-else-bytes-gt-LONGEST_KEPT+else-is_empty+then-is_listed w ↦ inl (rw w.deref.ensures.value at w.if-is_listed.ensures)
      ],
      cc,
    )
