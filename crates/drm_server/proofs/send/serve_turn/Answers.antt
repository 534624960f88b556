use Rattle.drm_links.specs.Calls.{sends}
use Rattle.drm_links.specs.History.{GroupTells}
use Rattle.drm_links.proofs.CallLemmas.{Make-then, Tells-then}
use Rattle.drm_server.specs.Serving.{pause}
use Rattle.drm_server.proofs.send.serve_turn.Goals as goal

pub returns-clause-made : goal.returns-clause-made
returns-clause-made g c =
    let a = g.G.Group.known c.args.group.now in
    let m = g.G.Group.known c.rest_before.new.group in
    let b = g.G.Group.known c.send.new.outlets in
    Make-then (pause c.args.pace c.args.n c.args.k) (sends c.args.k c.args.datagrams.now) (g.G.Group.up c.args.group.now) (g.G.Group.up c.rest_before.new.group) (g.G.Group.up c.send.new.outlets)
    (λ events. GroupTells events a m) (λ events. GroupTells events m b) (λ events. GroupTells events a b) (λ x y first second. Tells-then x y a m b first second) c.rest_before.ensures.made c.send.ensures.made
