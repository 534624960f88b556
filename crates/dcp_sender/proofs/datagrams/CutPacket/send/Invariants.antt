use Rattle.std.proofs.Common.{◌≡◌, length, take}
use Rattle.drm_links.specs.Calls.{sends, CallsMake}
use Rattle.dcp_sender.proofs.datagrams.CutPacket.send.Given as goal

-- the datagrams before this one were called for
abbrev pub invariant-loop-i : goal.invariant-loop-i
invariant-loop-i g l =
    (length (g.O.Outlets.up l.outlets) ≡ length (g.O.Outlets.up l.fn.outlets))
    × CallsMake (sends l.fn.k (take l.i l.fn.self)) (g.O.Outlets.up l.fn.outlets) (g.O.Outlets.up l.outlets) (λ events. g.O.Outlets.happened events l.fn.outlets l.outlets)
