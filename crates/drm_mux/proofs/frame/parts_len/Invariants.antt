use Rattle.std.proofs.Common.{◌≡◌, ◌≤◌, ◌*◌, take}
use Rattle.std.specs.List.{sum_by}
use Rattle.drm_mux.specs.Frame.{part_length}
use Rattle.drm_mux.proofs.frame.parts_len.Given as goal

-- the sum of the parts before this one
abbrev pub invariant-loop-part : goal.invariant-loop-part
invariant-loop-part l =
    record { sum : l.sum ≡ sum_by part_length (take l.part-index l.parts); small : l.sum ≤ 131070 * l.part-index }
