use Rattle.std.proofs.Common.{◌≡◌, ◌∙◌, ℕ, suc, List, subst, arith, add-one, length}
use Rattle.drm_links.specs.Calls.{Call, each, CallsMake}
use Rattle.drm_links.proofs.CallLemmas.{Make-then, Tells-then}
use Rattle.drm_links.specs.History.{GroupTells}
use Rattle.drm_server.specs.Datagrams.{AreOfFrame}
use Rattle.drm_server.specs.Serving.{turn}
use Rattle.drm_server.specs.ServerState.{ServerState}
use Rattle.drm_server.proofs.send.serve_frame.Goals as goal

pub loop-k-preserved : goal.loop-k-preserved
loop-k-preserved g c =
    let i = c.loop-k.invariant in
    let k = c.loop-k.k in
    let u = g.G.Group.up c.args.group.now in
    let v = g.G.Group.up c.loop-k.group in
    let w = g.G.Group.up c.serve_turn.new.group in
    let a = g.G.Group.known c.args.group.now in
    let m = g.G.Group.known c.loop-k.group in
    let b = g.G.Group.known c.serve_turn.new.group in
    let calls : ℕ → List Call = turn c.args.pace c.args.n c.datagrams-datagrams.result.now in
    let all : CallsMake (each calls (suc k)) u w (λ events. GroupTells events a b) =
    Make-then (each calls k) (calls k) u v w (λ events. GroupTells events a m) (λ events. GroupTells events m b) (λ events. GroupTells events a b) (λ x y first second. Tells-then x y a m b first second) i.1 c.serve_turn.ensures.made in
    (c.serve_turn.ensures.same_count ∙ i.0, rw add-one all)

pub returns-clause-made : goal.returns-clause-made
returns-clause-made g c =
    let d = c.datagrams-datagrams.result.now in
    let u = g.G.Group.up c.args.group.now in
    let v = g.G.Group.up c.loop-k.group in
    let all : c.loop-k.k ≡ length u = omega (arith, c.loop-k-test.false, c.loop-k.auto.k-end, c.len-k-end.ensures) in
    let s = c.server.inside.loaded in
    let are : AreOfFrame s.plan s.frame d = c.datagrams-datagrams.ensures.are in
    (d, subst (λ (x : ServerState). AreOfFrame x.plan x.frame d) c.server.view_is are, subst (λ (n : ℕ). CallsMake (each (turn c.args.pace c.args.n d) n) u v (λ events. GroupTells events (g.G.Group.known c.args.group.now) (g.G.Group.known c.loop-k.group))) all c.loop-k.invariant.1)
