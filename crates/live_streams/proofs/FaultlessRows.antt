-- A plan of which no configuration has a fault has none.
use Rattle.std.proofs.Common.{◌≡◌, ℕ, ◌+◌, ◌-◌, ◌*◌, Bool, true, false, List, [], ◌∷◌, ◌++◌, All, Option, Some, None, if◌then◌else◌, refl, ap, ◌∙◌}
use Rattle.std.proofs.lemmas.Bool.{le-ltb}
use Rattle.std.proofs.lemmas.List.Elements.{All-head, All-tail}
use Rattle.dcp_pft.specs.Limits.{most_packet}
use Rattle.drm_schedule.specs.declared.invalid.Invalid.{Invalid}
use Rattle.drm_schedule.specs.declared.invalid.Reason.{Reason}
use Rattle.drm_schedule.specs.declared.invalid.Reason.TheVariants as reason
use Rattle.drm_schedule.specs.declared.stream.Stream.{Stream}
use Rattle.drm_schedule.specs.declared.timed.Timed.{Timed}
use Rattle.drm_schedule.specs.declared.plan.Plan.{Plan}
use Rattle.drm_schedule.specs.declared.config.Config.{Config}
use Rattle.drm_schedule.specs.Services.{block_disagrees}
use Rattle.drm_schedule.specs.Sizes.{has_no_room, packet_len}
use Rattle.drm_schedule.specs.Valid.{rows, place_rows, channel_rows, carried_rows, beginning_rows, block_rows, content_rows, first_fault, first_of, next_start, end_before, is_short, first_invalid_from, BeginRightly, IsFaultless, AreFaultless}

-- no row holds
abbrev NoneHolds : List (Bool × Invalid) → Type 0
NoneHolds [] = Unit {0}
NoneHolds (r ∷ more) = (r.0 ≡ false) × NoneHolds more

none_found : (rows : List (Bool × Invalid)) → NoneHolds rows → first_fault rows ≡ None
none_found [] none = refl
none_found (r ∷ more) none = ap (λ b. if b then Some r.1 else first_fault more) none.0 ∙ none_found more none.1

none_of_both : (rows more : List (Bool × Invalid)) → NoneHolds rows → NoneHolds more → NoneHolds (rows ++ more)
none_of_both [] more none behind = behind
none_of_both (r ∷ rows) more none behind = (none.0, none_of_both rows more none.1 behind)

for_no_block : (k j : ℕ) (holds : Timed → Bool) (why : Reason) (blocks : List Timed) → All (λ (block : Timed). holds block ≡ false) blocks → NoneHolds (block_rows k j holds why blocks)
for_no_block k j holds why [] all = tt
for_no_block k j holds why (block ∷ blocks) all =
    let Fits : Timed → Type 0 = λ (block : Timed). holds block ≡ false in
    (All-head Fits block blocks all, for_no_block k (j + 1) holds why blocks (All-tail Fits block blocks all))

for_no_stream : (k j frames : ℕ) (streams : List Stream) → All (λ (s : Stream). is_short frames s ≡ false) streams → NoneHolds (content_rows k j frames streams)
for_no_stream k j frames [] all = tt
for_no_stream k j frames (s ∷ streams) all =
    let IsLong : Stream → Type 0 = λ (s : Stream). is_short frames s ≡ false in
    (All-head IsLong s streams all, for_no_stream k (j + 1) frames streams (All-tail IsLong s streams all))

none_begins : (k j : ℕ) (c : Config) (end : ℕ) (before : Option Timed) (blocks : List Timed) → BeginRightly c end before blocks → NoneHolds (beginning_rows k j c end before blocks)
none_begins k j c end before [] right = tt
none_begins k j c end before (block ∷ blocks) right = (right.0, none_begins k (j + 1) c end (Some block) blocks right.1)

no_row : (plan : Plan) (k : ℕ) (before : Option Config) (c : Config) (more : List Config) → IsFaultless plan before c more → NoneHolds (rows plan k before c more)
no_row plan k before c more is =
    let start : ℕ = next_start plan.length more in
    let frames : ℕ = 3 * (end_before plan.length more - c.start) in
    let carried : List (Bool × Invalid) = carried_rows plan k before c more in
    let fitting : List (Bool × Invalid) = block_rows k 0 (has_no_room c) reason.Fit c.blocks ++ carried in
    let telling : List (Bool × Invalid) = block_rows k 0 (block_disagrees c) reason.Services c.blocks ++ fitting in
    let own : List (Bool × Invalid) = channel_rows k c ++ telling in
    none_of_both (place_rows plan k before c) (beginning_rows k 0 c start None c.blocks ++ own) (is.order, (is.countdown_fits, tt))
    (none_of_both (beginning_rows k 0 c start None c.blocks) own (none_begins k 0 c start None c.blocks is.blocks_begin)
    (none_of_both (channel_rows k c) telling (is.occupancy_fits, (is.not_hierarchical, (is.services_agree, tt)))
    (none_of_both (block_rows k 0 (block_disagrees c) reason.Services c.blocks) fitting (for_no_block k 0 (block_disagrees c) reason.Services c.blocks is.blocks_agree)
    (none_of_both (block_rows k 0 (has_no_room c) reason.Fit c.blocks) carried (for_no_block k 0 (has_no_room c) reason.Fit c.blocks is.blocks_have_room)
    (is.announced, (le-ltb (most_packet plan.carry) (packet_len c true) is.packet, for_no_stream k 0 frames c.streams is.files))))))

pub none_invalid : (plan : Plan) (k : ℕ) (before : Option Config) (configs : List Config) → AreFaultless plan before configs → first_invalid_from plan k before configs ≡ None
unfolding first_invalid_from
none_invalid plan k before [] are = refl
none_invalid plan k before (c ∷ more) are =
    ap (λ fault. first_of fault (first_invalid_from plan (k + 1) (Some c) more)) (none_found (rows plan k before c more) (no_row plan k before c more are.0))
    ∙ none_invalid plan (k + 1) (Some c) more are.1
