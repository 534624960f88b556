use Rattle.std.proofs.Common.{◌∙◌, sym}
use Rattle.drm_links.proofs.FilesLemmas.{get-by_name, Loads-given}
use Rattle.drm_links.proofs.memory_shelf.MemShelf.next_load.Goals as goal

pub returns-else-is_listed : goal.returns-else-is_listed
returns-else-is_listed c =
    rw (← c.self.view_is)
    (Loads-given c.copy_within.result c.args.name.now c.args.limit _ _ (rw c.deref.ensures.value at c.if-is_listed.ensures) c.copy_within.ensures
    (c.get.ensures.value ∙ sym (get-by_name c.self.inside.files c.args.name.now)))
