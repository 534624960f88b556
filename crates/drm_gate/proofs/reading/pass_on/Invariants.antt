use Rattle.std.proofs.Common.{◌≡◌, ◌≤◌, length}
use Rattle.recv_reading.specs.State.{ahead}
use Rattle.drm_gate.specs.Gateway.{rules_of}
use Rattle.drm_gate.proofs.LoopLemmas.{GateLoop}
use Rattle.drm_gate.proofs.reading.pass_on.Given as goal

-- all that was given was passed on
abbrev pub invariant-answers : goal.invariant-answers
invariant-answers g l =
    GateLoop (rules_of l.fn.collector l.fn.options) l.fn.sender (g.R.Outlets.up l.fn.relay) (g.R.Outlets.up l.relay) (λ events. g.R.Outlets.happened events l.fn.relay l.relay) l.tally l.reading l.collector
    × (l.sender ≡ l.fn.sender)
    × (65536 ≤ length l.buffer)

abbrev pub decreases-answers : goal.decreases-answers
decreases-answers g l = ahead l.reading l.collector
