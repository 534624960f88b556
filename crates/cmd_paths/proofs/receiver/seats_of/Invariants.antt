use Rattle.std.proofs.Common.{◌≡◌, ◌++◌, map, vec_len, All}
use Rattle.std.specs.Vec.Iter.{into_iter_items}
use Rattle.cmd_paths.proofs.receiver.seats_of.Given as goal

-- the seats so far have the first paths
abbrev pub invariant-loop-path : goal.invariant-loop-path
invariant-loop-path g l =
    (map (λ seat. seat.path) l.seats.items ++ into_iter_items l.path-iterator ≡ l.fn.paths)
    × All (λ seat. vec_len seat.buffer ≡ 65536) l.seats.items
