use Rattle.std.proofs.Common.{◌≤◌, inl, inr, length, refl, arith}
use Rattle.std.proofs.lemmas.Grind.{common_steps}
use Rattle.std.proofs.lemmas.List.{map-append}
use Rattle.std.proofs.lemmas.List.Elements.{All-drop}
use Rattle.drm_links.specs.MemoryLink.{longest_brought}
use Rattle.drm_links.proofs.LinkLemmas.{CameBefore-then}
use Rattle.drm_links.proofs.memory_link.MemLink.hear.Goals as goal
use Rattle.drm_links.proofs.memory_link.MemLink.hear.Goals.{then-is_empty-via-then-is_empty, then-is_empty-via-else-is_empty+then-is_listed-2}

pub returns-then-is_empty-clause-exact : goal.returns-then-is_empty-clause-exact
returns-then-is_empty-clause-exact c =
    rw (← c.self.view_is) (
      rw c.deref.ensures.value at c.if-is_listed.ensures,
      elim c.then-is_empty.branch [
        | then-is_empty-via-then-is_empty w ↦ inr (grind (arith, common_steps))
        | then-is_empty-via-else-is_empty+then-is_listed-2 w ↦ inl (rw w.deref-else-is_empty.ensures.value at w.if-is_listed-2.ensures)
      ],
      refl,
      cc,
    )

pub invariant_of-self-2 : goal.invariant_of-self-2
invariant_of-self-2 c = (
  omega (arith, c.in-Ok.ensures.len, c.in-Ok.ensures.capacity, c.in-Some.ensures.cases),
  omega arith,
  omega arith,
  omega arith,
  rw c.in-Some.ensures.rest (All-drop (λ bytes. length bytes ≤ longest_brought) 1 c.self.inside.coming.items c.self.invariant.4),
  omega arith,
  omega arith,
  rw (c.in-Ok.ensures.items, map-append)
      (CameBefore-then _ c.self.inside.recvs c.self.inside.calls _ _ c.in-Some.bytes c.self.invariant.7 c.self.invariant.5 (omega arith) c.saturating_add-self-inside.ensures c.saturating_add-self-inside-2.ensures),
)
