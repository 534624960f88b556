use Rattle.std.proofs.Common.{◌≡◌, length}
use Rattle.drm_links.specs.Calls.{each, sends, CallsMake}
use Rattle.dcp_sender.proofs.sender.send_each.Given as goal

-- the datagrams were called for over the links before this one
abbrev pub invariant-loop-k : goal.invariant-loop-k
invariant-loop-k g l =
    (length (g.O.Outlets.up l.outlets) ≡ length (g.O.Outlets.up l.fn.outlets))
    × CallsMake (each (λ k. sends k l.datagrams) l.k) (g.O.Outlets.up l.fn.outlets) (g.O.Outlets.up l.outlets) (λ events. g.O.Outlets.happened events l.fn.outlets l.outlets)
