use Rattle.std.proofs.Common.{◌≡◌, Some}
use Rattle.drm_links.specs.Dock.{DockContents, DockOpens, DockCloses}
use Rattle.drm_links.specs.Gathering.{DockGathers, GathersNone, ReachesFew}
use Rattle.drm_links.specs.MemoryLink.{link_known}
use Rattle.drm_links.specs.MemoryDock.{dock_known}
use Rattle.drm_links.specs.MemoryGroup.{GathersOver, group_known}
use Rattle.drm_links.specs.declared.dock.Opened.TheVariants as opened
use Rattle.drm_links.specs.declared.dock.GatheredGroup.TheVariants as gathered
use Rattle.drm_links.proofs.KnownLemmas.{Tells-then, Tells-one, Tells-weaker}
use Rattle.drm_links.proofs.GatherLemmas.{room_told, missed_first, gathered_from, gathered_none}
use Rattle.drm_links.proofs.memory_dock.MemDock.gather_from.Goals as goal

pub returns-in-Failed-clause-gathered : goal.returns-in-Failed-clause-gathered
returns-in-Failed-clause-gathered c =
    let a = dock_known c.args.self.now in
    let b = dock_known c.open_bound.new.self in
    Tells-weaker (DockOpens link_known c.args.at opened.Failed) (GathersNone (Some c.args.at) c.args.to.now) a b
    (Tells-one (λ (d : DockContents). d.calls) (DockOpens link_known c.args.at opened.Failed) a b c.in-Failed.ensures.counts_call c.in-Failed.ensures.opened)
    (λ x y now. missed_first c.args.at c.args.to.now x y now)

pub returns-in-Ok-clause-gathered : goal.returns-in-Ok-clause-gathered
returns-in-Ok-clause-gathered c =
    let a = dock_known c.args.self.now in
    let b = dock_known c.open_bound.new.self in
    let d = dock_known c.gather_to.new.self in
    let Opens : DockContents → DockContents → Type 0 = DockOpens link_known c.args.at (opened.Link c.in-Link.source) in
    let Same : DockContents → DockContents → Type 0 = λ x y. (y ≡ x) × (x.room ≡ c.args.self.now.room) in
    let Over : DockContents → DockContents → Type 0 = GathersOver c.in-Link.source c.args.room.book.room c.args.to.now c.in-Ok.group in
    Tells-then (λ x z. (y : DockContents) × Same x y × Opens y z) Over (DockGathers group_known (Some c.args.at) c.args.to.now (gathered.Group c.in-Ok.group)) a b d
    (Tells-then Same Opens (λ x z. (y : DockContents) × Same x y × Opens y z) a a b (room_told c.args.self.now)
    (Tells-one (λ (e : DockContents). e.calls) Opens a b c.in-Link.ensures.counts_call c.in-Link.ensures.opened) (λ x y z p q. (y, p, q)))
    c.in-Ok.ensures.gathered
    (λ x z w p q. gathered_from c.args.at c.args.to.now c.args.self.now c.in-Link.source c.args.room.book.room c.in-Ok.group x p.0 z w c.requires.events p.1 p.2 q)

pub returns-in-Err-clause-gathered : goal.returns-in-Err-clause-gathered
returns-in-Err-clause-gathered c =
    let a = dock_known c.args.self.now in
    let b = dock_known c.open_bound.new.self in
    let d = dock_known c.gather_to.new.self in
    let e = dock_known c.close_link.new.self in
    let Opens : DockContents → DockContents → Type 0 = DockOpens link_known c.args.at (opened.Link c.in-Link.source) in
    let Few : DockContents → DockContents → Type 0 = ReachesFew c.args.to.now in
    let Closes : DockContents → DockContents → Type 0 = DockCloses (link_known c.in-Err.source).contents c.args.at in
    Tells-then (λ x z. (y : DockContents) × Opens x y × Few y z) Closes (GathersNone (Some c.args.at) c.args.to.now) a d e
    (Tells-then Opens Few (λ x z. (y : DockContents) × Opens x y × Few y z) a b d
    (Tells-one (λ (f : DockContents). f.calls) Opens a b c.in-Link.ensures.counts_call c.in-Link.ensures.opened) c.in-Err.ensures.failed (λ x y z p q. (y, p, q)))
    (Tells-one (λ (f : DockContents). f.calls) Closes d e c.close_link.ensures.counts_call c.close_link.ensures.gone)
    (λ x z w p q. gathered_none c.args.at c.args.to.now c.in-Link.source c.in-Err.source x p.0 z w c.in-Err.ensures.returned p.1 p.2 q)
