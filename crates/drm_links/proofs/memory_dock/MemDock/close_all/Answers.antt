use Rattle.std.proofs.Common.{rules, ◌≡◌, ℕ, ◌<◌, [], ◌∷◌, List, length, sym, ◌∙◌, ap, arith}
use Rattle.std.specs.Vec.Iter.{into_iter_items}
use Rattle.std.proofs.lemmas.List.{length-drop}
use Rattle.std.proofs.lemmas.Grind.{common_steps}
use Rattle.drm_links.specs.declared.member.Member.{Member}
use Rattle.drm_links.proofs.CloseLemmas.{next_left, close_more, closed_all}
use Rattle.drm_links.specs.MemoryLink.{LinkState, link_known}
use Rattle.drm_links.specs.MemoryDock.{dock_known}
use Rattle.drm_links.proofs.memory_dock.MemDock.close_all.Goals as goal

pub loop-member-preserved : goal.loop-member-preserved
loop-member-preserved c =
    let i = c.loop-member.invariant in
    let k : ℕ = c.loop-member.k in
    let members : List (Member LinkState) = c.args.members.items in
    let next : into_iter_items c.loop-member.member-iterator ≡ c.in-Some.member ∷ into_iter_items c.next.new.self = search rules in
    let left = next_left members (into_iter_items c.next.new.self) k c.in-Some.member (sym next ∙ i.1) in
    let there = left.0 in
    let few = c.requires in
    let within : k < length c.args.addresses.now = omega (arith, there, few) in (
      close_more link_known members c.args.addresses.now k c.get.result.now c.in-Some.member.link there within c.get.ensures
          (λ d. ap (λ (m : Member LinkState). m.link) (left.1 d)) c.in-Some.member
          (dock_known c.args.self.now) (dock_known c.loop-member.self) (dock_known c.close_link.new.self) i.0 c.close_link.ensures.gone c.close_link.ensures.counts_call,
      left.2,
      omega (arith, there),
      c.close_link.ensures.cause ∙ i.3,
    )

pub returns-clause-closed : goal.returns-clause-closed
returns-clause-closed c =
    let i = c.loop-member.invariant in
    let none : into_iter_items c.loop-member.member-iterator ≡ [] = grind (arith, common_steps) in
    let size = ap length (sym none ∙ i.1) ∙ length-drop c.loop-member.k c.args.members.items in
    closed_all link_known c.args.members.items c.args.addresses.now c.loop-member.k (dock_known c.args.self.now) (dock_known c.loop-member.self)
    (omega (arith, size)) i.0
