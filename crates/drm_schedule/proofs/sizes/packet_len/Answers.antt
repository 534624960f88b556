use Rattle.std.proofs.Common.{◌≤◌, ◌*◌, List, length, All, subst, sym, arith}
use Rattle.drm_schedule.specs.declared.stream.Stream.{Stream}
use Rattle.drm_schedule.specs.Ranges.{StreamInLines}
use Rattle.drm_schedule.proofs.ValidLemmas.{items_are_small}
use Rattle.drm_schedule.proofs.sizes.packet_len.Goals as goal
use Rattle.drm_schedule.proofs.sizes.packet_len.Goals.{then-is_first, else-is_first}

few : (c : goal.After-items_len) → c.items_len.result ≤ 8198 * 4
few c =
    let P : List Stream → Type 0 = λ ss. All StreamInLines ss in
    let each : All StreamInLines c.as_slice-streams.result.now = subst P (sym c.as_slice-streams.ensures) c.requires.each_stream in
    let size : length c.as_slice-streams.result.now ≤ 4 = rw c.as_slice-streams.ensures c.requires.few_streams in
    omega (arith, c.items_len.ensures, items_are_small _ each)

count : (c : goal.After-items_len) → length c.as_slice-streams.result.now ≤ 4
count c = rw c.as_slice-streams.ensures c.requires.few_streams

block : (c : goal.After-items_len) → c.if-is_first.block ≤ 1034
block c = elim c.if-is_first.branch [ then-is_first w ↦ omega (arith, c.requires.room_fits) | else-is_first w ↦ omega arith ]

pub overflow_add-result-5 : goal.overflow_add-result-5
overflow_add-result-5 c = omega (arith, few c, count c, block c)
