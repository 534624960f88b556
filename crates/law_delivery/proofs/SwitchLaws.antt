-- Where switches are told.
use Rattle.std.proofs.Common.{ℕ, length, ◌≡◌, ◌+◌, ◌-◌, ◌*◌, ◌/◌, ◌%◌, ◌<◌, List, slice_get, Contains, Option, Some, None, refl, sym, ap, subst, ◌∙◌, arith}
use Rattle.std.specs.Prelude.{ℤ, pos, ◌+ℤ◌}
use Rattle.std.proofs.lemmas.Int.{ints}
use Rattle.std.proofs.lemmas.Option.{slice_get_within}
use Rattle.drm_schedule.specs.declared.plan.Plan.{Plan}
use Rattle.drm_schedule.specs.Valid.{IsSchedule}
use Rattle.drm_schedule.proofs.Faultless.{all_faultless}
use Rattle.drm_reconfiguration.specs.declared.tracker.Before.{Before}
use Rattle.drm_reconfiguration.specs.declared.seen.Seen.{Seen}
use Rattle.drm_reconfiguration.specs.declared.tracker.Before.TheVariants.{Switch, Resumed}
use Rattle.drm_timeline.specs.Standing.{index_of}
use Rattle.drm_timeline.specs.Starts.{AnnouncesStarts, IsSeenOf, later_starts}
use Rattle.drm_timeline.specs.Starts.{AreSeenOf}
use Rattle.drm_reconfiguration.specs.Switches.{SwitchesAt}
use Rattle.drm_reconfiguration.specs.Announced.{NoneMissing}
use Rattle.drm_reconfiguration.proofs.SwitchesLemmas.{StandsBefore-same}
use Rattle.drm_timeline.proofs.ScheduleLaws.{announces_starts, at_all_its_starts, resumes_nowhere}
use Rattle.mod_feed.specs.Items.{seen_in}
use Rattle.mod_feed.specs.Feeding.{FeedStep, befores_of, all_seen}
use Rattle.law_delivery.specs.Laws.{SwitchesAtStarts, AllSwitches}
use Rattle.law_delivery.specs.Given.{AreGiven, AreAllServed}
use Rattle.law_delivery.proofs.Places.{map_at, there_at, length_mapped}
use Rattle.law_delivery.proofs.Seeing.{frame_seen, seen_of}
use Rattle.law_delivery.proofs.ServedFrames.{all_served}

pub announces : (plan : Plan) → IsSchedule plan → AnnouncesStarts plan
announces plan is = announces_starts plan is (all_faultless plan 0 None plan.configs is.valid)

-- the frame that an index names
named_place : (first_frame : ℤ) (by q t index position start : ℕ) → (first_frame +ℤ pos by) ≡ pos t → q ≡ (by + 3 * index) - position → position ≡ t % 3
    → start ≡ t / 3 + index → 0 < index → (first_frame +ℤ pos q) ≡ pos (3 * start)
named_place first_frame by q t index position start at is place begins above =
    let n : q + t % 3 ≡ by + 3 * index = omega (arith, is, place, above) in
    let m : 3 * start + t % 3 ≡ t + 3 * index = omega (arith, begins) in
    omega (arith, ints, at, n, m)

pub switches_at_starts : SwitchesAtStarts
switches_at_starts plan window first_frame frame_limit pairs steps q f is given before_is =
    let stands = given.before q (Some (Switch f)) before_is in
    let named = stands.1 in
    let names = named.names in
    let seen = names.0 in
    let above : 0 < seen.index = names.2 in
    let there : q ≡ (named.by + 3 * seen.index) - seen.position = names.3 in
    let of = frame_seen plan window first_frame frame_limit pairs steps named.by seen given names.1 in
    let t : ℕ = of.0 in
    let start : ℕ = t / 3 + seen.index in
    let index : seen.index ≡ index_of plan (t / 3) = of.3.index in
    let contains : Contains (later_starts plan) start =
    subst (λ (i : ℕ). Contains (later_starts plan) (t / 3 + i)) (sym index) ((announces plan is).named (t / 3) (omega (arith, above, index))) in
    (stands.0, (3 * start, named_place first_frame named.by q t seen.index seen.position start of.1 there of.3.position refl above, (start, contains, refl)))

-- where all are served, the base is the place of the first one
first_place : (plan : Plan) (first_frame : ℤ) (steps : List FeedStep) → AreAllServed plan first_frame steps → 0 < length steps → (b : ℕ) × (first_frame ≡ pos b)
first_place plan first_frame steps served some =
    let first = there_at steps 0 some in
    let at = served 0 first.0 first.1 in
    (at.0, omega (arith, ints, at.1))

module _ (plan : Plan) (window b : ℕ) (first_frame : ℤ) (frame_limit : Option ℕ) (pairs : List (ℕ × ℕ)) (steps : List FeedStep)
    (is : IsSchedule plan) (given : AreGiven plan window first_frame frame_limit pairs steps) (served : AreAllServed plan first_frame steps) (begins : first_frame ≡ pos b) where
  all_are_seen : AreSeenOf plan b (all_seen steps)
  all_are_seen q seen frame =
      let of = frame_seen plan window first_frame frame_limit pairs steps q seen given frame in
      let at : (first_frame +ℤ pos q) ≡ pos of.0 = of.1 in
      let same : of.0 ≡ q + b = omega (arith, ints, at, begins) in
      subst (λ (t : ℕ). IsSeenOf plan t seen) same of.3

  none_missing : NoneMissing (all_seen steps)
  none_missing q within =
      let step = there_at steps q (omega (arith, within, length_mapped (λ (s : FeedStep). seen_in s.item) steps)) in
      let frame = served q step.0 step.1 in
      let seen = seen_of plan frame.0 q step.0.item frame.2 in
      (seen.0, map_at (λ (s : FeedStep). seen_in s.item) steps q step.0 step.1 ∙ ap (λ (o : Option Seen). Some o) seen.1)

  switches_there : (start q : ℕ) → Contains (later_starts plan) start → (first_frame +ℤ pos q) ≡ pos (3 * start) → 0 < q → q < length steps → SwitchesAt (all_seen steps) q
  switches_there start q contains at above within =
      let there : b + q ≡ 3 * start = omega (arith, ints, at, begins) in
      let count : length (all_seen steps) ≡ length steps = length_mapped (λ (s : FeedStep). seen_in s.item) steps in
      subst (λ (k : ℕ). SwitchesAt (all_seen steps) k) (omega (arith, there))
      (at_all_its_starts plan (announces plan is) b (all_seen steps) start all_are_seen none_missing contains (omega (arith, there, above)) (omega (arith, there, within, count)))

  switch_there : (q : ℕ) → q < length steps → SwitchesAt (all_seen steps) q → slice_get (befores_of steps) q ≡ Some (Some (Switch q))
  switch_there q within switches =
      let step = there_at steps q within in
      let before_is : slice_get (befores_of steps) q ≡ Some step.0.before = map_at (λ (s : FeedStep). s.before) steps q step.0 step.1 in
      before_is
      ∙ ap (λ (o : Option Before). Some o)
      (StandsBefore-same (all_seen steps) q step.0.before (Some (Switch q)) (given.before q step.0.before before_is) (refl, switches))

  none_resumed : (q p : ℕ) → slice_get (befores_of steps) q ≡ Some (Some (Resumed p)) → ⊥
  none_resumed q p before_is =
      resumes_nowhere plan (announces plan is) b (all_seen steps) q all_are_seen none_missing (given.before q (Some (Resumed p)) before_is).1

pub all_switches : AllSwitches
all_switches plan window first_frame frame_limit pairs steps is given frames = (
  λ start q contains at above within.
      let served = all_served plan window first_frame frame_limit pairs steps given frames in
      let first = first_place plan first_frame steps served (omega (arith, within)) in
      switch_there plan window first.0 first_frame frame_limit pairs steps is given served first.1 q within
      (switches_there plan window first.0 first_frame frame_limit pairs steps is given served first.1 start q contains at above within),
  λ q p before_is.
      let served = all_served plan window first_frame frame_limit pairs steps given frames in
      let within : q < length (befores_of steps) = slice_get_within (befores_of steps) q (Some (Resumed p)) before_is in
      let count : length (befores_of steps) ≡ length steps = length_mapped (λ (s : FeedStep). s.before) steps in
      let first = first_place plan first_frame steps served (omega (arith, within, count)) in
      none_resumed plan window first.0 first_frame frame_limit pairs steps is given served first.1 q p before_is,
)
