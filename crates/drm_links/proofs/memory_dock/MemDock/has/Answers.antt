use Rattle.std.proofs.Common.{◌∙◌, sym, ap, is_some}
use Rattle.drm_links.specs.Dock.{address_key}
use Rattle.drm_links.proofs.DockLemmas.{get-entries_of}
use Rattle.drm_links.proofs.memory_dock.MemDock.has.Goals as goal

pub returns : goal.returns
returns c =
    rw (← c.self.view_is)
    (rw c.key_of.ensures at c.contains_key.ensures ∙ ap is_some (sym (get-entries_of c.self.inside.links (address_key c.args.at))))
