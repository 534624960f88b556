use Rattle.std.proofs.Common.{◌≡◌, ◌∙◌, ap}
use Rattle.drm_links.specs.Dock.{DockContents}
use Rattle.drm_links.specs.Gathering.{after_reaches}
use Rattle.drm_links.specs.Members.{HaveLinks}
use Rattle.drm_links.specs.MemoryLink.{link_known}
use Rattle.drm_links.specs.MemoryDock.{dock_known}
use Rattle.drm_links.specs.MemoryGroup.{GathersOver, ups_of}
use Rattle.drm_links.proofs.KnownLemmas.{Tells-both, Tells-weaker}
use Rattle.drm_links.proofs.GatherLemmas.{all_up, gathers_over}
use Rattle.drm_links.proofs.memory_dock.MemDock.gather_to.Goals as goal

pub returns-in-Ok-clause-up : goal.returns-in-Ok-clause-up
returns-in-Ok-clause-up c = ap ups_of c.of.ensures.members ∙ all_up c.in-Ok.members.items _ c.in-Ok.ensures.same_count c.in-Ok.ensures.up

pub returns-in-Ok-clause-gathered : goal.returns-in-Ok-clause-gathered
returns-in-Ok-clause-gathered c =
    let a = dock_known c.args.self.now in
    let b = dock_known c.reach_all.new.self in
    let P : DockContents → DockContents → Type 0 = λ x y. y ≡ after_reaches c.args.to.now x in
    let Q : DockContents → DockContents → Type 0 = λ x _. HaveLinks link_known x c.args.to.now c.in-Ok.members.items in
    Tells-weaker (λ x y. P x y × Q x y) (GathersOver c.args.source c.args.room.book.room c.args.to.now c.of.result) a b (Tells-both P Q a b c.in-Ok.ensures.opened c.in-Ok.ensures.links)
    (λ x y p. gathers_over c.args.source c.args.room.book.room c.args.to.now c.in-Ok.members.items c.of.result x y c.in-Ok.ensures.same_count c.in-Ok.ensures.up c.of.ensures.members c.of.ensures.source
    c.of.ensures.events c.of.ensures.room c.of.ensures.tells p.0 p.1)
