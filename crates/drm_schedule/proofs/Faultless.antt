-- Where a plan has no fault, none of its configurations has one.
use Rattle.std.proofs.Common.{◌≡◌, ℕ, zero, suc, ◌+◌, ◌-◌, ◌*◌, Bool, true, false, List, [], ◌∷◌, ◌++◌, All, Option, Some, None, if◌then◌else◌, refl, arith}
use Rattle.std.proofs.lemmas.Bool.{ltb-false}
use Rattle.drm_schedule.specs.declared.invalid.Invalid.{Invalid}
use Rattle.drm_schedule.specs.declared.invalid.Reason.{Reason}
use Rattle.drm_schedule.specs.declared.invalid.Reason.TheVariants as reason
use Rattle.drm_schedule.specs.declared.stream.Stream.{Stream}
use Rattle.drm_schedule.specs.declared.timed.Timed.{Timed}
use Rattle.drm_schedule.specs.declared.plan.Plan.{Plan}
use Rattle.drm_schedule.specs.declared.config.Config.{Config}
use Rattle.drm_schedule.specs.Services.{block_disagrees}
use Rattle.drm_schedule.specs.Sizes.{has_no_room}
use Rattle.drm_schedule.specs.Valid.{rows, place_rows, channel_rows, beginning_rows, block_rows, content_rows, first_fault, first_of, next_start, end_before, is_short, first_invalid_from, BeginRightly, IsFaultless, AreFaultless}

-- no row holds
abbrev NoneHolds : List (Bool × Invalid) → Type 0
NoneHolds [] = Unit {0}
NoneHolds (r ∷ more) = (r.0 ≡ false) × NoneHolds more

none_holds : (rows : List (Bool × Invalid)) → first_fault rows ≡ None → NoneHolds rows
none_holds [] none = tt
none_holds (r ∷ more) none = go r.0 (none_holds more) none
  where
    go : (holds : Bool) → (first_fault more ≡ None → NoneHolds more) → (if holds then Some r.1 else first_fault more) ≡ None → (holds ≡ false) × NoneHolds more
    go true rest none = absurd cc
    go false rest none = (refl, rest none)

none_of_both : (rows more : List (Bool × Invalid)) → NoneHolds (rows ++ more) → NoneHolds rows × NoneHolds more
none_of_both [] more none = (tt, none)
none_of_both (r ∷ rows) more none = let parts = none_of_both rows more none.1 in ((none.0, parts.0), parts.1)

long_enough : (k j frames : ℕ) (streams : List Stream) → NoneHolds (content_rows k j frames streams) → All (λ (s : Stream). is_short frames s ≡ false) streams
long_enough k j frames [] none n d within = absurd (omega (arith, within))
long_enough k j frames (s ∷ streams) none zero d within = none.0
long_enough k j frames (s ∷ streams) none (suc n) d within = long_enough k (j + 1) frames streams none.1 n d (omega (arith, within))

for_no_block : (k j : ℕ) (holds : Timed → Bool) (why : Reason) (blocks : List Timed) → NoneHolds (block_rows k j holds why blocks) → All (λ (block : Timed). holds block ≡ false) blocks
for_no_block k j holds why [] none n d within = absurd (omega (arith, within))
for_no_block k j holds why (block ∷ blocks) none zero d within = none.0
for_no_block k j holds why (block ∷ blocks) none (suc n) d within = for_no_block k (j + 1) holds why blocks none.1 n d (omega (arith, within))

begin_rightly : (k j : ℕ) (c : Config) (end : ℕ) (before : Option Timed) (blocks : List Timed) → NoneHolds (beginning_rows k j c end before blocks) → BeginRightly c end before blocks
begin_rightly k j c end before [] none = tt
begin_rightly k j c end before (block ∷ blocks) none = (none.0, begin_rightly k (j + 1) c end (Some block) blocks none.1)

one : (plan : Plan) (k : ℕ) (before : Option Config) (c : Config) (more : List Config) → NoneHolds (rows plan k before c more) → IsFaultless plan before c more
one plan k before c more none =
    let start = next_start plan.length more in
    let (placed, behind) = none_of_both (place_rows plan k before c) _ none in
    let (begun, own) = none_of_both (beginning_rows k 0 c start None c.blocks) _ behind in
    let (channel, later) = none_of_both (channel_rows k c) _ own in
    let (agree, fitting) = none_of_both (block_rows k 0 (block_disagrees c) reason.Services c.blocks) _ later in
    let (room, carried) = none_of_both (block_rows k 0 (has_no_room c) reason.Fit c.blocks) _ fitting in
    record {
      order = placed.0;
      countdown_fits = placed.1.0;
      blocks_begin = begin_rightly k 0 c start None c.blocks begun;
      occupancy_fits = channel.0;
      not_hierarchical = channel.1.0;
      services_agree = channel.1.1.0;
      blocks_agree = for_no_block k 0 (block_disagrees c) reason.Services c.blocks agree;
      blocks_have_room = for_no_block k 0 (has_no_room c) reason.Fit c.blocks room;
      announced = carried.0;
      packet = ltb-false _ _ carried.1.0;
      files = long_enough k 0 (3 * (end_before plan.length more - c.start)) c.streams carried.1.1;
    }

neither : (a b : Option Invalid) → first_of a b ≡ None → (a ≡ None) × (b ≡ None)
neither None b none = (refl, none)
neither (Some x) b none = absurd cc

pub all_faultless : (plan : Plan) (k : ℕ) (before : Option Config) (configs : List Config) → first_invalid_from plan k before configs ≡ None → AreFaultless plan before configs
unfolding first_invalid_from
all_faultless plan k before [] none = tt
all_faultless plan k before (c ∷ more) none =
    let parts = neither (first_fault (rows plan k before c more)) (first_invalid_from plan (k + 1) (Some c) more) none in
    (one plan k before c more (none_holds (rows plan k before c more) parts.0), all_faultless plan (k + 1) (Some c) more parts.1)
