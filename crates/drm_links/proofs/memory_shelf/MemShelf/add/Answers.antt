use Rattle.std.proofs.Common.{◌≡◌, ◌∙◌, ap, string_bytes}
use Rattle.std.specs.FinMap as map
use Rattle.drm_links.specs.MemoryShelf.{by_name, shelf_known}
use Rattle.drm_links.proofs.FilesLemmas.{by_name-insert, contents-with_file}
use Rattle.drm_links.proofs.memory_shelf.MemShelf.add.Goals as goal

pub returns-in-Ok-clause-added : goal.returns-in-Ok-clause-added
returns-in-Ok-clause-added c =
    let name_is : string_bytes c.in_ok-name.name ≡ c.args.name.now = c.in_ok-name.ensures.ok in
    let file_is : c.in_ok-file.file ≡ c.args.bytes.now = c.in_ok-file.ensures in
    let inserted : by_name c.insert.new.self ≡ map.insert (by_name c.self.inside.files) c.args.name.now c.args.bytes.now =
    rw (← name_is, ← file_is) (by_name-insert c.self.inside.files c.insert.new.self (string_bytes c.in_ok-name.name) c.in_ok-file.file c.in-Ok.ensures.updates) in
    rw (← c.self.view_is) (ap (λ files. record { files = files; failing = c.self.inside.failing.items; loads = c.self.inside.loads; names = c.self.inside.names.items; faults = c.self.inside.faults }) inserted)

pub returns-in-Ok-clause-tells : goal.returns-in-Ok-clause-tells
returns-in-Ok-clause-tells c = ap (λ shelf. (shelf_known shelf).contents) (returns-in-Ok-clause-added c) ∙ contents-with_file c.args.self.now c.args.name.now c.args.bytes.now
