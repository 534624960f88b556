use Rattle.std.proofs.Common.{◌≡◌, ◌≤◌, ◌*◌, take}
use Rattle.drm_mux.specs.Streams.{parts_a_length}
use Rattle.drm_mux.proofs.splitting.parts_a_len.Given as goal

-- the sum of the parts A before this one
abbrev pub invariant-loop-part : goal.invariant-loop-part
invariant-loop-part l =
    record { sum : l.sum ≡ parts_a_length (take l.part-index l.parts); small : l.sum ≤ 65535 * l.part-index }
