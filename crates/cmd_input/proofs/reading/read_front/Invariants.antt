use Rattle.std.proofs.Common.{◌≡◌, ◌≤◌, ◌-◌, length}
use Rattle.cmd_input.proofs.Filling.{IsFilled}
use Rattle.cmd_input.proofs.reading.read_front.Given as goal

-- the bytes that were read stand in front
abbrev pub invariant-loop-len : goal.invariant-loop-len
invariant-loop-len g l =
    IsFilled l.len l.buffer (g.I.Source.known l.fn.input) (g.I.Source.known l.input)
    × (length l.buffer ≡ length l.fn.buffer)
    × (l.len ≤ length l.buffer)
    × ((g.I.Source.known l.input).faults ≡ (g.I.Source.known l.fn.input).faults)

abbrev pub decreases-loop-len : goal.decreases-loop-len
decreases-loop-len g l = length l.fn.buffer - l.len
