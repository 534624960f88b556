-- The items of a delivery by their numbers, and the frames of its schedule.
use Rattle.std.proofs.Common.{◌≡◌, ◌∙◌, ℕ, zero, suc, ◌+◌, ◌-◌, ◌*◌, ◌<◌, ◌≤◌, Bool, false, inl, inr, cond, List, [], ◌∷◌, length, map, take, drop, slice_index_or, slice_index, Option, None, Some, refl, sym, ap, subst, arith, lt-ltb, le-ltb, ◌&&◌}
use Rattle.std.specs.Prelude.{ℤ, pos, negsuc, ◌+ℤ◌, ◌-ℤ◌, slice_get}
use Rattle.std.specs.List.{AllByRecursion}
use Rattle.std.proofs.lemmas.Int.{ints}
use Rattle.std.proofs.lemmas.List.{length-map}
use Rattle.std.proofs.lemmas.Option.{slice_get_cases, slice_get-get_or}
use Rattle.drm_bits.specs.declared.description.MuxDesc.{MuxDesc}
use Rattle.drm_schedule.specs.declared.config.Config.{Config}
use Rattle.drm_schedule.specs.declared.plan.Plan.{Plan}
use Rattle.drm_schedule.specs.Contents.{stream_bytes}
use Rattle.drm_schedule.specs.Valid.{IsSchedule}
use Rattle.drm_timeline.specs.Numbers.{frame_count}
use Rattle.drm_reconfiguration.specs.Tracker.{new_tracker}
use Rattle.mdi_items.specs.Frame.{Frame as MdiFrame}
use Rattle.dcp_pft.specs.Loss.{is_recoverable}
use Rattle.dcp_collect.specs.declared.taken.Taken.{Taken}
use Rattle.dcp_collect.specs.Numbers.{end_of}
use Rattle.dcp_collect.specs.Runs.{CollectorItem as Collected, CollectorRun}
use Rattle.law_collect.specs.Delivery.{got, newest_of}
use Rattle.law_delivery.specs.Given.{IsServed, IsItemBy, IsItemAt, AreGiven}
use Rattle.law_delivery.specs.Laws.{Delivering}
use Rattle.law_delivery.specs.Sent.{Arrival, pairs_in, frame_at, frame_of_number, shape_at, IsDeliveryOf}
use Rattle.mod_feed.specs.Items.{FrameItem, Missing}
use Rattle.mod_feed.specs.Feeding.{FeedStep}
use Rattle.cmd_unpack.specs.Streams.{stream_of}
use Rattle.cmd_unpack.specs.Printed.{AreItems}
use Rattle.law_unpack.specs.Delivered.{is_given, is_given_at}
use Rattle.law_unpack.proofs.Numbered.{Fed, fed, run_from}

-- ---- the stream of a frame that is given

-- it is the schedule's
pub stream_served : (plan : Plan) (k t q : ℕ) (item : FrameItem) → (served : IsServed plan t q item)
    → stream_of k served.read.frame served.payload ≡ slice_get (map (stream_bytes (t - 3 * served.is_frame.config.start)) served.is_frame.config.streams) k
stream_served plan k t q item served =
    let config : Config = served.is_frame.config in
    let frame : MdiFrame = served.read.frame in
    let streams : List (List ℕ) = map (stream_bytes (t - 3 * config.start)) config.streams in
    let parts : served.parts.streams ≡ streams = served.is_frame.streams in
    let described : served.parts.mux.count ≡ length streams =
    ap (λ (m : MuxDesc). m.count) served.is_frame.mux ∙ sym (length-map config.streams (stream_bytes (t - 3 * config.start))) in
    let many : frame.mux.count ≡ length streams = ap (λ (m : MuxDesc). m.count) served.read.mux ∙ described in
    let cut : List ℕ = take (slice_index frame.streams.len k) (drop (slice_index frame.streams.at k) served.payload) in
    elim (slice_get_cases streams k).1 [
      | inl (bytes, within, is, same) ↦
          let here : cut ≡ slice_index_or streams k [] = served.read.streams k (omega (arith, within, described)) ∙ ap (λ l. slice_index_or l k []) parts in
          ap (λ b. cond b (Some cut) None) (lt-ltb k frame.mux.count (omega (arith, within, many))) ∙ (ap Some here ∙ sym (slice_get-get_or streams k [] within))
      | inr (past, is) ↦ ap (λ b. cond b (Some cut) None) (le-ltb k frame.mux.count (omega (arith, past, many))) ∙ sym is
    ]

-- ---- place by place

-- items that are missing
abbrev pub AreMissing : List FrameItem → Type 0
AreMissing items = AllByRecursion (λ item. (q : ℕ) × (item ≡ Missing q 0 0)) items

module _ (plan : Plan) (window : ℕ) (first_frame : ℤ) (pairs : List (ℕ × ℕ)) where
  abbrev pub kept_at : ℕ → ℕ → Bool
  kept_at q = got window first_frame pairs q

  -- the items from number q on
  abbrev pub AreAt : ℕ → List FrameItem → Type 0
  AreAt q items = (i : ℕ) (item : FrameItem) → slice_get items i ≡ Some item → IsItemAt plan window first_frame pairs (q + i) item

  pub first_at : (q : ℕ) (item : FrameItem) (items : List FrameItem) → AreAt q (item ∷ items) → IsItemAt plan window first_frame pairs q item
  first_at q item items are = subst (λ n. IsItemAt plan window first_frame pairs n item) (omega arith) (are 0 item refl)

  pub next_at : (q : ℕ) (item : FrameItem) (items : List FrameItem) → AreAt q (item ∷ items) → AreAt (q + 1) items
  next_at q item items are = λ i one at. subst (λ n. IsItemAt plan window first_frame pairs n one) (omega arith) (are (suc i) one at)

  -- items of no frame of the schedule are missing
  pub missing_by : (q : ℕ) (item : FrameItem) → frame_of_number plan first_frame q ≡ None → IsItemAt plan window first_frame pairs q item → item ≡ Missing q 0 0
  missing_by q item none is = subst (λ (o : Option ℕ). IsItemBy plan o q (kept_at q) item) none is

module _ (first_frame : ℤ) where
  number_is : (t q : ℕ) → (first_frame +ℤ pos q) ≡ pos t → (pos t -ℤ first_frame) ≡ pos q
  number_is t q place = omega (arith, ints, place)

  pub place_next : (t q : ℕ) → (first_frame +ℤ pos q) ≡ pos t → (first_frame +ℤ pos (q + 1)) ≡ pos (t + 1)
  place_next t q place = omega (arith, ints, place)

  pub none_behind : (plan : Plan) (t q : ℕ) → (first_frame +ℤ pos q) ≡ pos t → frame_count plan ≤ t → frame_of_number plan first_frame q ≡ None
  none_behind plan t q place past = ap (frame_at plan) place ∙ ap (λ b. cond b (Some t) None) (le-ltb t (frame_count plan) past)

pub none_before : (plan : Plan) (z : ℤ) (m : ℕ) → (z +ℤ pos (m + 1)) ≡ pos 0 → frame_at plan z ≡ None
none_before plan (pos n) m e = absurd (omega (arith, ints, e))
none_before plan (negsuc n) m e = refl

pub all_behind : (plan : Plan) (window : ℕ) (first_frame : ℤ) (pairs : List (ℕ × ℕ)) (t q : ℕ) (items : List FrameItem)
    → (first_frame +ℤ pos q) ≡ pos t → frame_count plan ≤ t → AreAt plan window first_frame pairs q items → AreMissing items
all_behind plan window first_frame pairs t q [] place past are = tt
all_behind plan window first_frame pairs t q (item ∷ items) place past are = (
  (q, missing_by plan window first_frame pairs q item (none_behind first_frame plan t q place past) (first_at plan window first_frame pairs q item items are)),
  all_behind plan window first_frame pairs (t + 1) (q + 1) items (place_next first_frame t q place) (omega (arith, past)) (next_at plan window first_frame pairs q item items are),
)

-- a frame with a number below the end is given where it can be made again; no other frame is
module _ (plan : Plan) (window : ℕ) (first_frame : ℤ) (pairs : List (ℕ × ℕ)) (end : ℕ) where
  pub given_within : (t q : ℕ) → (first_frame +ℤ pos q) ≡ pos t → q < end
      → is_given plan window first_frame pairs end t ≡ is_recoverable (shape_at plan t) (kept_at plan window first_frame pairs q)
  given_within t q place below =
      ap (is_given_at plan window first_frame pairs end t) (number_is first_frame t q place)
      ∙ ap (λ b. b && is_recoverable (shape_at plan t) (kept_at plan window first_frame pairs q)) (lt-ltb q end below)

  pub lost_past : (t q : ℕ) → (first_frame +ℤ pos q) ≡ pos t → end ≤ q → is_given plan window first_frame pairs end t ≡ false
  lost_past t q place past =
      ap (is_given_at plan window first_frame pairs end t) (number_is first_frame t q place)
      ∙ ap (λ b. b && is_recoverable (shape_at plan t) (kept_at plan window first_frame pairs q)) (le-ltb q end past)

  pub lost_early : (t : ℕ) (z : ℤ) (n : ℕ) → (z +ℤ pos (n + 1)) ≡ pos 0 → is_given_at plan window first_frame pairs end t z ≡ false
  lost_early t (pos m) n e = absurd (omega (arith, ints, e))
  lost_early t (negsuc m) n e = refl

-- ---- the items of a run

-- the item of a step, by its place among the items
step_at : (steps : List FeedStep) (q : ℕ) (item : FrameItem) → slice_get (map (λ (s : FeedStep). s.item) steps) q ≡ Some item
    → (step : FeedStep) × (slice_get steps q ≡ Some step) × (step.item ≡ item)
step_at [] q item at = absurd (let none : None ≡ Some item = at in cc)
step_at (step ∷ steps) zero item at = (step, refl, (let same : step.item ≡ item = cc in same))
step_at (step ∷ steps) (suc q) item at = step_at steps q item at

-- They are those of the delivery, from number 0 up to the end.
pub record ArePlaced (plan : Plan) (window : ℕ) (first_frame : ℤ) (frame_limit : Option ℕ) (pairs : List (ℕ × ℕ)) (items : List FrameItem) : Type 0 where
  pub many : length items ≡ end_of frame_limit (newest_of first_frame None pairs)
  pub at : AreAt plan window first_frame pairs 0 items

pub placed : (plan : Plan) (window reach : ℕ) (first frame_limit : Option ℕ) (first_frame : ℤ) (arrivals : List Arrival) (datagrams : List (List ℕ))
    (answers : List Taken) (collected : List Collected) (items : List FrameItem) → Delivering
    → IsSchedule plan → 1 ≤ window → IsDeliveryOf plan reach first first_frame arrivals datagrams → CollectorRun window reach first frame_limit datagrams answers collected
    → AreItems collected items → ArePlaced plan window first_frame frame_limit (pairs_in arrivals) items
placed plan window reach first frame_limit first_frame arrivals datagrams answers collected items delivering is some followed run are =
    let pairs : List (ℕ × ℕ) = pairs_in arrivals in
    let steps : Fed new_tracker collected items = fed new_tracker collected items (run_from window reach first frame_limit datagrams answers collected run) are in
    let given : AreGiven plan window first_frame frame_limit pairs steps.steps =
    (delivering plan window reach first frame_limit first_frame arrivals datagrams answers collected steps.steps steps.after is some followed run steps.feeds).0 in
    record {
      many = ap length (sym steps.items_are) ∙ (length-map steps.steps (λ (s : FeedStep). s.item) ∙ given.many);
      at = λ q item at.
          let step = step_at steps.steps q item (ap (λ l. slice_get l q) steps.items_are ∙ at) in
          let here : IsItemAt plan window first_frame pairs q item = subst (λ one. IsItemAt plan window first_frame pairs q one) step.2 (given.items q step.0 step.1) in
          subst (λ n. IsItemAt plan window first_frame pairs n item) (omega arith) here;
    }
