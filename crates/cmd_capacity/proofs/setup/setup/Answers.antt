use Rattle.std.proofs.Common.{◌≤◌, List, length, All, subst, sym, arith}
use Rattle.drm_schedule.specs.declared.stream.Stream.{Stream}
use Rattle.drm_schedule.specs.Ranges.{StreamInLines}
use Rattle.cmd_capacity.proofs.SumLemmas.{a_is_small, b_is_small}
use Rattle.cmd_capacity.proofs.setup.setup.Goals as goal

each : (c : goal.After-part_a_len) → All StreamInLines c.as_slice-streams.result.now
each c = let P : List Stream → Type 0 = λ ss. All StreamInLines ss in subst P (sym c.as_slice-streams.ensures) c.requires.each_stream

count : (c : goal.After-part_a_len) → length c.as_slice-streams.result.now ≤ 4
count c = rw c.as_slice-streams.ensures c.requires.few_streams

pub overflow_cast-result : goal.overflow_cast-result
overflow_cast-result c = omega (arith, c.part_a_len.ensures, a_is_small _ (each c), count c)

pub overflow_cast-result-2 : goal.overflow_cast-result-2
overflow_cast-result-2 c =
    let P : List Stream → Type 0 = λ ss. All StreamInLines ss in
    let all : All StreamInLines c.as_slice-streams.result.now = subst P (sym c.as_slice-streams.ensures) c.requires.each_stream in
    let few : length c.as_slice-streams.result.now ≤ 4 = rw c.as_slice-streams.ensures c.requires.few_streams in
    omega (arith, c.part_b_len.ensures, b_is_small _ all, few)
