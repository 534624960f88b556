use Rattle.std.proofs.Common.{◌≡◌, List, true}
use Rattle.drm_links.specs.Dock.{DockContents, Over}
use Rattle.drm_links.specs.Gathering.{DockDisbands, after_closes, after_source_close, with_history}
use Rattle.drm_links.specs.Members.{HasGone, HaveGone}
use Rattle.drm_links.specs.MemoryLink.{link_known}
use Rattle.drm_links.specs.MemoryDock.{dock_known}
use Rattle.drm_links.specs.MemoryGroup.{group_known}
use Rattle.drm_links.proofs.KnownLemmas.{Tells-then}
use Rattle.drm_links.proofs.GatherLemmas.{disbanded}
use Rattle.drm_links.proofs.memory_dock.MemDockDock.disband.Goals as goal

pub returns-clause-disbanded : goal.returns-clause-disbanded
returns-clause-disbanded c =
    let parts = c.into_parts-source.result in
    let members = parts.1.members.items in
    let a = dock_known c.args.self.now in
    let b = dock_known c.close_all.new.self in
    let d = dock_known c.close_source.new.self in
    let e = dock_known c.keep_history.new.self in
    let First : DockContents → DockContents → Type 0 = λ x y. (overs : List Over) → HaveGone link_known members overs → y ≡ after_closes overs c.args.to.now x in
    let Second : DockContents → DockContents → Type 0 = λ y z. (over : Over) → HasGone link_known parts.0 over → z ≡ after_source_close c.args.from over y in
    let Third : DockContents → DockContents → Type 0 = λ z w. (parts.1.book.tells ≡ true) × (w ≡ with_history parts.1.book.events z) in
    let Both : DockContents → DockContents → Type 0 = λ x z. (y : DockContents) × First x y × Second y z in
    Tells-then Both Third (DockDisbands (group_known c.args.group) c.args.from c.args.to.now) a d e
    (Tells-then First Second Both a b d c.close_all.ensures.closed c.close_source.ensures.closed (λ x y z p q. (y, p, q)))
    c.keep_history.ensures.kept
    (λ x z w p q. disbanded c.args.from c.args.to.now c.args.group members parts.0 parts.1.book x p.0 z w c.requires c.into_parts-source.ensures.members c.into_parts-source.ensures.source c.into_parts-source.ensures.book
    c.into_parts-source.ensures.step p.1 p.2 q)
