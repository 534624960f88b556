use Rattle.std.proofs.Common.{rules, ◌≡◌, ℕ, ◌<◌, [], ◌∷◌, ◌++◌, List, length, map, slice_index_or, refl, sym, ◌∙◌, ap, arith, append_assoc}
use Rattle.std.specs.Vec.Iter.{into_iter_items}
use Rattle.std.proofs.lemmas.List.{length-map, get_or-map, append-nil}
use Rattle.std.proofs.lemmas.Grind.{common_steps}
use Rattle.drm_links.specs.declared.member.Member.{Member}
use Rattle.drm_links.proofs.CloseLemmas.{next_left, closing_first, close_more}
use Rattle.drm_links.proofs.BindLemmas.{as_members, member_at, members_many}
use Rattle.cmd_paths.specs.declared.receiver.PathReceiver.{PathReceiver}
use Rattle.cmd_paths.specs.Opening.{member_of}
use Rattle.cmd_paths.proofs.Opening.{itself, closed_over}
use Rattle.cmd_paths.proofs.open.close_links.Goals as goal

pub loop-receiver-init : goal.loop-receiver-init
loop-receiver-init g c =
    let receivers : List (PathReceiver g.row.G.Denot g.row.D-L.Denot) = c.args.receivers.items in (
      closing_first g.D.L.Link.known (as_members itself (map (λ receiver. receiver.link) receivers)) c.args.addresses.now (g.D.Dock.known c.args.dock.now),
      search rules,
      omega arith,
      refl,
      λ fits. search rules,
    )

pub loop-receiver-preserved : goal.loop-receiver-preserved
loop-receiver-preserved g c =
    let i = c.loop-receiver.invariant in
    let k : ℕ = c.loop-receiver.k in
    let receivers : List (PathReceiver g.row.G.Denot g.row.D-L.Denot) = c.args.receivers.items in
    let links : List g.row.D-L.Denot = map (λ receiver. receiver.link) receivers in
    let receiver : PathReceiver g.row.G.Denot g.row.D-L.Denot = c.in-Some.receiver in
    let next : into_iter_items c.loop-receiver.receiver-iterator ≡ receiver ∷ into_iter_items c.next.new.self = search rules in
    let left = next_left receivers (into_iter_items c.next.new.self) k receiver (sym next ∙ i.1) in
    let there = left.0 in
    let few = c.requires in
    let within : k < length c.args.addresses.now = omega (arith, there, few) in
    let size = length-map receivers (λ (j : PathReceiver g.row.G.Denot g.row.D-L.Denot). j.link) in
    let inside : k < length links = omega (arith, there, size) in
    let sized = members_many itself links in
    let link_is : slice_index_or links k receiver.link ≡ receiver.link = get_or-map (λ (j : PathReceiver g.row.G.Denot g.row.D-L.Denot). j.link) receivers k receiver receiver.link there ∙ ap (λ (j : PathReceiver g.row.G.Denot g.row.D-L.Denot). j.link) (left.1 receiver) in (
      close_more g.D.L.Link.known (as_members itself links) c.args.addresses.now k c.get.result.now receiver.link (omega (arith, inside, sized)) within c.get.ensures
          (λ d. ap (λ (m : Member g.row.D-L.Denot). m.link) (member_at itself links k receiver.link d inside) ∙ link_is) (member_of receiver.link)
          (g.D.Dock.known c.args.dock.now) (g.D.Dock.known c.loop-receiver.dock) (g.D.Dock.known c.close.new.self) i.0 c.close.ensures.gone c.close.ensures.counts_call,
      left.2,
      omega (arith, there),
      c.close.ensures.cause ∙ i.3,
      λ fits.
          let kept = c.put-fits.ensures fits in
          ap (λ ps. ps ++ map (λ (j : PathReceiver g.row.G.Denot g.row.D-L.Denot). j.path) (into_iter_items c.next.new.self)) kept.1
          ∙ (append_assoc c.loop-receiver.paths (receiver.path ∷ []) (map (λ (j : PathReceiver g.row.G.Denot g.row.D-L.Denot). j.path) (into_iter_items c.next.new.self))
          ∙ (ap (λ js. c.loop-receiver.paths ++ map (λ (j : PathReceiver g.row.G.Denot g.row.D-L.Denot). j.path) js) (sym next) ∙ i.4 kept.0)),
    )

pub returns-then-fits-clause-paths : goal.returns-then-fits-clause-paths
returns-then-fits-clause-paths g c =
    let none : into_iter_items c.loop-receiver.receiver-iterator ≡ [] = grind (arith, common_steps) in
    sym (append-nil c.loop-receiver.paths)
    ∙ (ap (λ js. c.loop-receiver.paths ++ map (λ (j : PathReceiver g.row.G.Denot g.row.D-L.Denot). j.path) js) (sym none) ∙ c.loop-receiver.invariant.4 c.if-fits.true)

pub returns-then-fits-clause-closed : goal.returns-then-fits-clause-closed
returns-then-fits-clause-closed g c =
    let none : into_iter_items c.loop-receiver.receiver-iterator ≡ [] = grind (arith, common_steps) in
    closed_over (λ (j : PathReceiver g.row.G.Denot g.row.D-L.Denot). j.link) g.D.L.Link.known c.args.addresses.now c.args.receivers.items c.loop-receiver.k (g.D.Dock.known c.args.dock.now) (g.D.Dock.known c.loop-receiver.dock)
    (sym none ∙ c.loop-receiver.invariant.1) c.loop-receiver.invariant.0

pub returns-clause-closed : goal.returns-clause-closed
returns-clause-closed g c =
    let none : into_iter_items c.loop-receiver.receiver-iterator ≡ [] = grind (arith, common_steps) in
    closed_over (λ (j : PathReceiver g.row.G.Denot g.row.D-L.Denot). j.link) g.D.L.Link.known c.args.addresses.now c.args.receivers.items c.loop-receiver.k (g.D.Dock.known c.args.dock.now) (g.D.Dock.known c.loop-receiver.dock)
    (sym none ∙ c.loop-receiver.invariant.1) c.loop-receiver.invariant.0
