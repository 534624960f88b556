-- The bytes of a part over all streams.
use Rattle.std.proofs.Common.{◌*◌, ◌≤◌, suc, List, [], ◌∷◌, length, All, sum_by, arith}
use Rattle.std.proofs.lemmas.List.Sums.{sum_by-cons}
use Rattle.drm_schedule.specs.declared.stream.Stream.{Stream}
use Rattle.drm_schedule.specs.Ranges.{StreamInLines}

pub a_is_small : (streams : List Stream) → All StreamInLines streams → sum_by (λ (s : Stream). s.a) streams ≤ 4095 * length streams
a_is_small [] each = omega arith
a_is_small (s ∷ streams) each =
    let here : StreamInLines s = each 0 s (omega arith) in
    omega (arith, sum_by-cons (λ (s : Stream). s.a) s streams, here.a_fits, a_is_small streams (λ k d within. each (suc k) d (omega arith)))

pub b_is_small : (streams : List Stream) → All StreamInLines streams → sum_by (λ (s : Stream). s.b) streams ≤ 4095 * length streams
b_is_small [] each = omega arith
b_is_small (s ∷ streams) each =
    let here : StreamInLines s = each 0 s (omega arith) in
    omega (arith, sum_by-cons (λ (s : Stream). s.b) s streams, here.b_fits, b_is_small streams (λ k d within. each (suc k) d (omega arith)))
