use Rattle.std.proofs.Common.{◌≡◌, ◌++◌, ◌≤◌, ◌-◌, length, take}
use Rattle.drm_links.specs.Source.{InputsBytes}
use Rattle.cmd_show.specs.Input.{AsksAtMost}
use Rattle.cmd_show.proofs.head.read_head.Given as goal

-- the bytes read so far stand in front of those left
abbrev pub invariant-loop-len : goal.invariant-loop-len
invariant-loop-len g l =
    InputsBytes (g.I.Source.known l.fn.input) (g.I.Source.known l.input) (λ left rest. left ≡ take l.len l.bytes ++ rest)
    × (length l.bytes ≡ 10)
    × (l.len ≤ 10)
    × ((g.I.Source.known l.input).faults ≡ (g.I.Source.known l.fn.input).faults)
    × AsksAtMost l.len (g.I.Source.known l.fn.input) (g.I.Source.known l.input)

abbrev pub decreases-loop-len : goal.decreases-loop-len
decreases-loop-len g l = 10 - l.len
