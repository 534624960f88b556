use Rattle.std.proofs.Common.{◌≡◌, refl}
use Rattle.std.specs.FinMap as map
use Rattle.std.specs.Ordering.{nat_cmp}
use Rattle.std.specs.Cmp.Lexicographic.{slice_cmp}
use Rattle.drm_links.specs.Dock.{address_key}
use Rattle.drm_links.proofs.DockLemmas.{links-insert, contents-put}
use Rattle.drm_links.proofs.memory_dock.MemDock.put.Goals as goal

pub returns-in-Ok-insert-clause-put : goal.returns-in-Ok-insert-clause-put
returns-in-Ok-insert-clause-put c =
    let inserted : map.from_entries {R = slice_cmp nat_cmp} c.insert.new.self.entries ≡ map.insert (map.from_entries {R = slice_cmp nat_cmp} c.self.inside.links.entries) (address_key c.args.at) c.args.link =
    rw (← c.key_of.ensures, ← c.in-Ok.ensures.made, ← c.make-2.ensures)
    (links-insert c.self.inside.links c.insert.new.self c.key_of.result c.make-2.result c.in-Ok-insert.ensures.updates) in
    rw (← c.self.view_is, inserted) refl

pub returns-in-Ok-insert-clause-tells : goal.returns-in-Ok-insert-clause-tells
returns-in-Ok-insert-clause-tells c = contents-put c.args.self.now _ c.args.at c.args.link (returns-in-Ok-insert-clause-put c)
