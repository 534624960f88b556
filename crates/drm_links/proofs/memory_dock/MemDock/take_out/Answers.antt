use Rattle.std.proofs.Common.{Some, inr, refl, sym, ap}
use Rattle.drm_links.proofs.DockLemmas.{get-entries_of, links-remove}
use Rattle.drm_links.proofs.memory_dock.MemDock.take_out.Goals as goal

pub returns-in_default-clause-exact : goal.returns-in_default-clause-exact
returns-in_default-clause-exact c =
    rw (← c.self.view_is) (
      inr (rw (get-entries_of, ← c.key_of.ensures, ← c.in_default.ensures.value) refl),
      rw (c.in_default.ensures.unchanged, c.saturating_add-self-inside.ensures, c.saturating_add-self-inside-2.ensures, c.saturating_add-self-inside-in_default.ensures) refl,
    )

pub returns-clause-exact : goal.returns-clause-exact
returns-clause-exact c =
    let removed = links-remove c.self.inside.links c.remove.new.self c.key_of.result c.in-Some.ensures.updates in
    rw (← c.self.view_is) (
      rw c.deref.ensures.value at c.if-is_listed.ensures,
      rw (get-entries_of, ← c.key_of.ensures, ← c.in-Some.ensures.value) (ap Some (sym c.into_docked.ensures.same)),
      c.into_docked.ensures.untouched,
      rw (← c.key_of.ensures, removed, c.saturating_add-self-inside.ensures, c.saturating_add-self-inside-2.ensures) refl,
    )
