use Rattle.std.proofs.Common.{◌≡◌, length}
use Rattle.drm_links.specs.Calls.{each, CallsMake}
use Rattle.drm_links.specs.History.{GroupTells}
use Rattle.drm_server.specs.Serving.{turn}
use Rattle.drm_server.proofs.send.serve_frame.Given as goal

-- the frame went over the links before this one
abbrev pub invariant-loop-k : goal.invariant-loop-k
invariant-loop-k g l =
    (length (g.G.Group.up l.group) ≡ length (g.G.Group.up l.fn.group))
    × CallsMake (each (turn l.fn.pace l.fn.n l.datagrams) l.k) (g.G.Group.up l.fn.group) (g.G.Group.up l.group) (λ events. GroupTells events (g.G.Group.known l.fn.group) (g.G.Group.known l.group))
