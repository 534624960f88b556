-- What is seen of the frames that are given.
use Rattle.std.proofs.Common.{ℕ, ◌-◌, ◌≡◌, ◌*◌, ◌/◌, ◌%◌, ◌<◌, Bool, true, false, List, Option, Some, None, option_map, refl, sym, ap, subst, ◌∙◌, arith}
use Rattle.std.specs.Prelude.{ℤ, pos, ◌+ℤ◌}
use Rattle.drm_bits.specs.declared.description.MuxDesc.{MuxDesc}
use Rattle.drm_fac.specs.declared.channel.Channel.{Channel}
use Rattle.drm_fac.specs.declared.fac.Fac.{Fac}
use Rattle.drm_fac.specs.declared.service.Service.{Service}
use Rattle.drm_schedule.specs.declared.config.Config.{Config}
use Rattle.drm_fac.specs.declared.mode.Mode.{Mode}
use Rattle.drm_schedule.specs.declared.plan.Plan.{Plan}
use Rattle.plan_packing.specs.Packing.{chain}
use Rattle.dcp_pft.specs.Loss.{is_recoverable}
use Rattle.law_collect.specs.Delivery.{got}
use Rattle.drm_reconfiguration.specs.declared.seen.Seen.{Seen}
use Rattle.drm_reconfiguration.specs.declared.seen.Signature.{Signature}
use Rattle.drm_timeline.specs.Description.{description_of}
use Rattle.drm_timeline.specs.FastAccess.{identity_of, channel_of, fac_under, fac_of, services_of, service_of}
use Rattle.drm_reconfiguration.specs.Seen.{signature_of}
use Rattle.drm_timeline.specs.Standing.{config_of, index_of}
use Rattle.drm_timeline.specs.Starts.{IsSeenOf, signature_at}
use Rattle.drm_reconfiguration.specs.Switches.{IsFrame}
use Rattle.mod_feed.specs.Items.{FrameItem, Missing, position_of, shown_by, seen_in}
use Rattle.mod_feed.specs.Feeding.{FeedStep, all_seen}
use Rattle.drm_timeline.specs.Numbers.{frame_count}
use Rattle.law_delivery.specs.Sent.{shape_at, frame_of_number}
use Rattle.law_delivery.specs.Given.{IsServed, IsServedWhere, IsItemBy, IsItemAt, AreGiven}
use Rattle.law_delivery.proofs.Numbering.{frame_is}
use Rattle.law_delivery.proofs.Places.{mapped_at}

some_fac : (a b : Fac) → Some a ≡ Some b → a ≡ b
some_fac a b same = cc

-- the channel of the FAC of a frame
channel_under : (c : Config) (index t : ℕ) (fac : Fac) → fac_under c index t ≡ Some fac → (services : ℕ) × (fac.channel ≡ channel_of c services index (t % 3))
channel_under c index t fac is = by (services_of c) (service_of c (t - 3 * c.start)) is
  where
    by : (o : Option ℕ) (s : Option Service)
        → chain o (λ services. option_map (λ (service : Service). record { channel = channel_of c services index (t % 3); service = service }) s) ≡ Some fac
        → (services : ℕ) × (fac.channel ≡ channel_of c services index (t % 3))
    by None s same = absurd cc
    by (Some services) None same = absurd cc
    by (Some services) (Some service) same =
        (services, ap (λ (f : Fac). f.channel) (sym (some_fac (record { channel = channel_of c services index (t % 3); service = service }) fac same)))

pub channel_is : (plan : Plan) (t : ℕ) (c : Config) (fac : Fac) → config_of plan (t / 3) ≡ Some c → fac_of plan t ≡ Some fac
    → (services : ℕ) × (fac.channel ≡ channel_of c services (index_of plan (t / 3)) (t % 3))
channel_is plan t c fac holds is =
    channel_under c (index_of plan (t / 3)) t fac
    (sym (ap (λ (o : Option Config). chain o (λ (d : Config). fac_under d (index_of plan (t / 3)) t)) holds) ∙ is)

position_again : (t : ℕ) → position_of (identity_of (t % 3)) ≡ t % 3
position_again t = grind arith

signature_is : (plan : Plan) (t : ℕ) (c : Config) (fac : Fac) → config_of plan (t / 3) ≡ Some c → fac_of plan t ≡ Some fac
    → signature_at plan t ≡ Some (signature_of c.mode fac.channel (description_of c))
signature_is plan t c fac holds is =
    ap (λ (o : Option Config). chain o (λ (d : Config). option_map (λ (f : Fac). signature_of d.mode f.channel (description_of d)) (fac_of plan t))) holds
    ∙ ap (option_map (λ (f : Fac). signature_of c.mode f.channel (description_of c))) is

-- what is seen of a frame that is served is what the schedule has there
pub seen_of : (plan : Plan) (t q : ℕ) (item : FrameItem) → IsServed plan t q item → (seen : Seen) × (seen_in item ≡ Some seen) × IsSeenOf plan t seen
seen_of plan t q item served =
    let at = served.is_frame in
    let read = served.read in
    let c : Config = at.config in
    let channel = channel_is plan t c served.parts.fac at.holds at.fac in
    let same : read.frame.fac.channel ≡ channel_of c channel.0 (index_of plan (t / 3)) (t % 3) = ap (λ (f : Fac). f.channel) read.fac ∙ channel.1 in
    let mode : c.mode ≡ read.frame.mode = sym (read.mode ∙ at.mode) in
    let fac : served.parts.fac.channel ≡ read.frame.fac.channel = ap (λ (f : Fac). f.channel) (sym read.fac) in
    let mux : description_of c ≡ read.frame.mux = sym (read.mux ∙ at.mux) in
    let signature : signature_of c.mode served.parts.fac.channel (description_of c) ≡ signature_of read.frame.mode read.frame.fac.channel read.frame.mux =
    ap (λ (m : Mode). signature_of m served.parts.fac.channel (description_of c)) mode
    ∙ ap (λ (k : Channel). signature_of read.frame.mode k (description_of c)) fac
    ∙ ap (λ (m : MuxDesc). signature_of read.frame.mode read.frame.fac.channel m) mux in (
      shown_by read.frame,
      ap seen_in served.item_is,
      record {
        position = ap (λ (k : Channel). position_of k.identity) same ∙ position_again t;
        index = ap (λ (k : Channel). k.index) same;
        signature = signature_is plan t c served.parts.fac at.holds at.fac ∙ ap (λ (s : Signature). Some s) signature;
      },
    )

-- Where something is seen in an item, the item is a frame of the schedule.
pub record IsShown (plan : Plan) (first_frame : ℤ) (q : ℕ) (item : FrameItem) : Type 0 where
  pub t : ℕ
  pub at : (first_frame +ℤ pos q) ≡ pos t
  pub below : t < frame_count plan
  pub served : IsServed plan t q item

missing : {X : Type 0} (item : FrameItem) (seen : Seen) (q had total : ℕ) → item ≡ Missing q had total → seen_in item ≡ Some seen → X
missing item seen q had total is some = absurd (let e : None ≡ Some seen = sym (ap seen_in is) ∙ some in cc)

pub shown_in : (plan : Plan) (window : ℕ) (first_frame : ℤ) (pairs : List (ℕ × ℕ)) (q : ℕ) (item : FrameItem) (seen : Seen) → IsItemAt plan window first_frame pairs q item
    → seen_in item ≡ Some seen → IsShown plan first_frame q item
shown_in plan window first_frame pairs q item seen is some = by (frame_of_number plan first_frame q) refl is
  where
    kept : ℕ → Bool
    kept = got window first_frame pairs q

    where_got : (t : ℕ) → frame_of_number plan first_frame q ≡ Some t → (b : Bool) → IsServedWhere b plan t q kept item → IsShown plan first_frame q item
    where_got t at true served = let place = frame_is plan (first_frame +ℤ pos q) t at in record { t = t; at = place.0; below = place.1; served = served }
    where_got t at false lost = missing item seen q _ _ lost some

    by : (o : Option ℕ) → frame_of_number plan first_frame q ≡ o → IsItemBy plan o q kept item → IsShown plan first_frame q item
    by None at lost = missing item seen q 0 0 lost some
    by (Some t) at is = where_got t at (is_recoverable (shape_at plan t) kept) is

-- each frame that is seen among the items is the schedule's
pub frame_seen : (plan : Plan) (window : ℕ) (first_frame : ℤ) (frame_limit : Option ℕ) (pairs : List (ℕ × ℕ)) (steps : List FeedStep) (q : ℕ) (seen : Seen)
    → AreGiven plan window first_frame frame_limit pairs steps → IsFrame (all_seen steps) q seen
    → (t : ℕ) × ((first_frame +ℤ pos q) ≡ pos t) × (t < frame_count plan) × IsSeenOf plan t seen
frame_seen plan window first_frame frame_limit pairs steps q seen given frame =
    let from = mapped_at (λ (step : FeedStep). seen_in step.item) steps q (Some seen) frame in
    let shown = shown_in plan window first_frame pairs q from.0.item seen (given.items q from.0 from.1) from.2 in
    let is = seen_of plan shown.t q from.0.item shown.served in
    let same : is.0 ≡ seen = some_seen is.0 seen (sym is.1 ∙ from.2) in
    (shown.t, shown.at, shown.below, subst (λ (s : Seen). IsSeenOf plan shown.t s) same is.2)
  where
    some_seen : (a b : Seen) → Some a ≡ Some b → a ≡ b
    some_seen a b e = cc
