use Rattle.std.proofs.Common.{rules, ◌≡◌, ℕ, ◌<◌, [], ◌∷◌, List, length, sym, ◌∙◌, ap, arith}
use Rattle.std.specs.Vec.Iter.{into_iter_items}
use Rattle.std.proofs.lemmas.List.{length-drop}
use Rattle.std.proofs.lemmas.Grind.{common_steps}
use Rattle.drm_links.specs.declared.member.Member.{Member}
use Rattle.drm_links.proofs.CloseLemmas.{next_left, close_more, closed_all}
use Rattle.recv_report.specs.declared.receiver.Receiver.{Receiver}
use Rattle.drm_links.proofs.BindLemmas.{as_member, as_members, member_at, members_many}
use Rattle.cmd_receive.proofs.HearingLemmas.{link_in}
use Rattle.cmd_receive.proofs.receive_command.close_all.Goals as goal

pub loop-receiver-preserved : goal.loop-receiver-preserved
loop-receiver-preserved g c =
    let i = c.loop-receiver.invariant in
    let k : ℕ = c.loop-receiver.k in
    let receivers : List (Receiver g.row.D-L.Denot) = c.args.receivers.items in
    let receiver : Receiver g.row.D-L.Denot = c.in-Some.receiver in
    let next : into_iter_items c.loop-receiver.receiver-iterator ≡ receiver ∷ into_iter_items c.next.new.self = search rules in
    let left = next_left receivers (into_iter_items c.next.new.self) k receiver (sym next ∙ i.1) in
    let there = left.0 in
    let few = c.requires in
    let within : k < length c.args.addresses.now = omega (arith, there, few) in
    let size = members_many link_in receivers in (
      close_more g.D.L.Link.known (as_members link_in receivers) c.args.addresses.now k c.get.result.now receiver.link (omega (arith, there, size)) within c.get.ensures
          (λ d. ap (λ (m : Member g.row.D-L.Denot). m.link) (member_at link_in receivers k receiver d there) ∙ ap (λ (j : Receiver g.row.D-L.Denot). j.link) (left.1 receiver)) (as_member link_in receiver)
          (g.D.Dock.known c.args.dock.now) (g.D.Dock.known c.loop-receiver.dock) (g.D.Dock.known c.close.new.self) i.0 c.close.ensures.gone c.close.ensures.counts_call,
      left.2,
      omega (arith, there),
      c.close.ensures.cause ∙ i.3,
    )

pub returns-clause-closed : goal.returns-clause-closed
returns-clause-closed g c =
    let i = c.loop-receiver.invariant in
    let receivers : List (Receiver g.row.D-L.Denot) = c.args.receivers.items in
    let none : into_iter_items c.loop-receiver.receiver-iterator ≡ [] = grind (arith, common_steps) in
    let size = ap length (sym none ∙ i.1) ∙ length-drop c.loop-receiver.k receivers in
    let mapped = members_many link_in receivers in
    closed_all g.D.L.Link.known (as_members link_in receivers) c.args.addresses.now c.loop-receiver.k (g.D.Dock.known c.args.dock.now) (g.D.Dock.known c.loop-receiver.dock)
    (omega (arith, size, mapped)) i.0
