use Rattle.std.proofs.Common.{◌≡◌, None}
use Rattle.drm_links.specs.Dock.{DockContents}
use Rattle.drm_links.specs.Gathering.{DockGathers}
use Rattle.drm_links.specs.MemoryDock.{dock_known}
use Rattle.drm_links.specs.MemoryGroup.{GathersOver, group_known}
use Rattle.drm_links.specs.declared.dock.GatheredGroup.TheVariants as gathered
use Rattle.drm_links.proofs.KnownLemmas.{Tells-then}
use Rattle.drm_links.proofs.GatherLemmas.{room_told, gathered_to}
use Rattle.drm_links.proofs.memory_dock.MemDock.gather_idle.Goals as goal

pub returns-in-Ok-gather_to-clause-gathered : goal.returns-in-Ok-gather_to-clause-gathered
returns-in-Ok-gather_to-clause-gathered c =
    let a = dock_known c.args.self.now in
    let b = dock_known c.gather_to.new.self in
    let Same : DockContents → DockContents → Type 0 = λ x y. (y ≡ x) × (x.room ≡ c.args.self.now.room) in
    let Over : DockContents → DockContents → Type 0 = GathersOver c.in-Ok.idle c.args.room.book.room c.args.to.now c.in-Ok-gather_to.group in
    Tells-then Same Over (DockGathers group_known None c.args.to.now (gathered.Group c.in-Ok-gather_to.group)) a a b (room_told c.args.self.now)
    c.in-Ok-gather_to.ensures.gathered
    (λ x y z p q. gathered_to c.args.self.now c.in-Ok.idle c.args.room.book.room c.args.to.now c.in-Ok-gather_to.group x y z c.in-Ok.ensures.silent c.requires.events p q)
