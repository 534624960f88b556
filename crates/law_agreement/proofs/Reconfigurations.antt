-- What one modulator reports of reconfigurations.
use Rattle.std.proofs.Common.{ℕ, zero, suc, ◌≡◌, ◌+◌, ◌-◌, ◌*◌, ◌/◌, ◌%◌, ◌<◌, ◌≤◌, List, slice_get, Option, Some, None, refl, sym, ap, subst, ◌∙◌, arith}
use Rattle.std.specs.Prelude.{ℤ, pos, ◌+ℤ◌}
use Rattle.std.proofs.lemmas.Int.{ints}
use Rattle.drm_schedule.specs.declared.plan.Plan.{Plan}
use Rattle.drm_schedule.specs.Valid.{IsSchedule}
use Rattle.drm_reconfiguration.specs.declared.seen.Seen.{Seen}
use Rattle.drm_reconfiguration.specs.declared.seen.Signature.{Signature}
use Rattle.drm_reconfiguration.specs.declared.tracker.Before.{Before}
use Rattle.drm_reconfiguration.specs.declared.tracker.Before.TheVariants.{Switch, Resumed}
use Rattle.drm_reconfiguration.specs.Switches.{IsFrame, IndexNames, IsNamedLast, SwitchesAt, ResumesAt}
use Rattle.drm_reconfiguration.proofs.SwitchesLemmas.{IsNamedLast-on, IsNamedLast-here, StandsBefore-same}
use Rattle.drm_timeline.specs.Standing.{index_of}
use Rattle.drm_timeline.specs.Starts.{IsSeenOf, signature_at}
use Rattle.mod_feed.specs.Items.{FrameItem, Frame, Missing, Bad, shown_by, seen_in}
use Rattle.mod_feed.specs.Feeding.{FeedStep, befores_of, all_seen}
use Rattle.law_delivery.specs.Given.{AreGiven, IsAFrame}
use Rattle.law_delivery.proofs.Places.{map_at, mapped_at}
use Rattle.law_delivery.proofs.Seeing.{frame_seen}
use Rattle.law_delivery.proofs.SwitchLaws.{announces, switches_at_starts, all_switches}
use Rattle.recv_report.specs.Headline.{ReportsSwitches}
use Rattle.law_agreement.specs.Reconfigurations.{GivenItems, CountsDownTo, GivesCountdown, CanReport, SwitchesBefore, FollowsMissedCountdown, ReportsReconfigurations}
use Rattle.law_agreement.proofs.Countdown.{counts_on, counts_before}
use Rattle.law_agreement.proofs.LaterStarts.{starts_between}

pub seen_if : (item : FrameItem) → IsAFrame item → (seen : Seen) × (seen_in item ≡ Some seen)
seen_if (Frame q frame payload) is = (shown_by frame, refl)
seen_if (Missing q had total) is = absurd is
seen_if (Bad q fault) is = absurd is

frame_if : (item : FrameItem) (seen : Seen) → seen_in item ≡ Some seen → IsAFrame item
frame_if (Frame q frame payload) seen is = tt
frame_if (Missing q had total) seen is = absurd (let e : None ≡ Some seen = is in cc)
frame_if (Bad q fault) seen is = absurd (let e : None ≡ Some seen = is in cc)

same_step : (a b : FeedStep) → Some a ≡ Some b → a ≡ b
same_step a b same = cc

not_none : (seen : Seen) → ◌≡◌ {A = Option (Option Seen)} (Some None) (Some (Some seen)) → ⊥
not_none seen e = absurd cc

not_there : (seen : Seen) → ◌≡◌ {A = Option (Option Seen)} None (Some (Some seen)) → ⊥
not_there seen e = absurd cc

-- where switches stand, by the laws of deliveries
pub reports_switches : (plan : Plan) (window : ℕ) (first_frame : ℤ) (frame_limit : Option ℕ) (pairs : List (ℕ × ℕ)) (steps : List FeedStep)
    → IsSchedule plan → AreGiven plan window first_frame frame_limit pairs steps → ReportsSwitches plan first_frame steps
reports_switches plan window first_frame frame_limit pairs steps is given = record {
  only = λ q f at. switches_at_starts plan window first_frame frame_limit pairs steps q f is given at;
  each = λ all start q contains at above within. (all_switches plan window first_frame frame_limit pairs steps is given all).0 start q contains at above within;
  none_resumed = λ all q p at. (all_switches plan window first_frame frame_limit pairs steps is given all).1 q p at;
}

module _ (plan : Plan) (window : ℕ) (first_frame : ℤ) (frame_limit : Option ℕ) (pairs : List (ℕ × ℕ)) (steps : List FeedStep)
    (is : IsSchedule plan) (given : AreGiven plan window first_frame frame_limit pairs steps) where
  abbrev pub items : GivenItems
  items = record { first_frame = first_frame; steps = steps }

  stands : (q : ℕ) (step : FeedStep) (before : Option Before) → slice_get steps q ≡ Some step → step.before ≡ before → slice_get (befores_of steps) q ≡ Some before
  stands q step before at same = map_at (λ (s : FeedStep). s.before) steps q step at ∙ ap (λ (o : Option Before). Some o) same

  shows : (q : ℕ) (step : FeedStep) (seen : Seen) → slice_get steps q ≡ Some step → seen_in step.item ≡ Some seen → IsFrame (all_seen steps) q seen
  shows q step seen at same = map_at (λ (s : FeedStep). seen_in s.item) steps q step at ∙ ap (λ (o : Option Seen). Some o) same

  -- a frame that counts down to a super frame names the number of the first frame of that
  names : (k q start t : ℕ) (seen : Seen) → IsFrame (all_seen steps) k seen → (first_frame +ℤ pos k) ≡ pos t → CountsDownTo plan start t → (first_frame +ℤ pos q) ≡ pos (3 * start) → IndexNames (all_seen steps) k q
  names k q start t seen frame at (above, counts) first =
      let (t', at', below, shown) = frame_seen plan window first_frame frame_limit pairs steps k seen given frame in
      let same : t' ≡ t = omega (arith, ints, at, at') in
      let of : IsSeenOf plan t seen = subst (λ (n : ℕ). IsSeenOf plan n seen) same shown in
      let position : seen.position ≡ t % 3 = of.position in
      let index : seen.index ≡ index_of plan (t / 3) = of.index in
      let ahead : q + t ≡ k + 3 * start = omega (arith, ints, at, first) in
      (seen, frame, omega (arith, index, above), omega (arith, position, index, above, counts, ahead))

  -- and so does each frame behind it that is given, up to that super frame
  module _ (start q by t : ℕ) (at : (first_frame +ℤ pos by) ≡ pos t) (counts : CountsDownTo plan start t) (first : (first_frame +ℤ pos q) ≡ pos (3 * start))
      (here : IndexNames (all_seen steps) by q) where
    names_on : (k : ℕ) (seen : Seen) → by ≤ k → k < q → IsFrame (all_seen steps) k seen → IndexNames (all_seen steps) k q
    names_on k seen low high frame =
        let later : (first_frame +ℤ pos k) ≡ pos (t + (k - by)) = omega (arith, ints, at, low) in
        let ahead : q + t ≡ by + 3 * start = omega (arith, ints, at, first) in
        names k q start (t + (k - by)) seen frame later (counts_on plan is start t (t + (k - by)) counts (omega arith) (omega (arith, ahead, low, high))) first

    named_on : (d k : ℕ) → k ≡ by + 1 + d → k ≤ q → IsNamedLast (all_seen steps) k q
    named_on zero k is high = subst (λ (n : ℕ). IsNamedLast (all_seen steps) n q) (omega (arith, is)) (IsNamedLast-here (all_seen steps) by q here)
    named_on (suc d) k is high = one (named_on d (by + 1 + d) refl (omega (arith, is, high))) (slice_get (all_seen steps) (by + 1 + d)) refl
      where
        m : ℕ
        m = by + 1 + d

        next : m + 1 ≡ k
        next = omega (arith, is)

        one : IsNamedLast (all_seen steps) m q → (o : Option (Option Seen)) → slice_get (all_seen steps) m ≡ o → IsNamedLast (all_seen steps) k q
        one before (Some (Some seen)) there =
            subst (λ (n : ℕ). IsNamedLast (all_seen steps) n q) next (IsNamedLast-here (all_seen steps) m q (names_on m seen (omega arith) (omega (arith, is, high)) there))
        one before (Some None) there =
            subst (λ (n : ℕ). IsNamedLast (all_seen steps) n q) next (IsNamedLast-on (all_seen steps) m q (λ other (seen, frame, above, there_is). not_none seen (sym there ∙ frame)) before)
        one before None there =
            subst (λ (n : ℕ). IsNamedLast (all_seen steps) n q) next (IsNamedLast-on (all_seen steps) m q (λ other (seen, frame, above, there_is). not_there seen (sym there ∙ frame)) before)

  -- if a frame of the countdown is given, a switch stands before the reconfiguration
  switches : (start q : ℕ) → GivesCountdown plan start items → (first_frame +ℤ pos q) ≡ pos (3 * start) → SwitchesAt (all_seen steps) q
  switches start q counted first =
      let at : (first_frame +ℤ pos counted.q) ≡ pos counted.t = counted.is.1 in
      let (seen, shown) = seen_if counted.step.item counted.is_frame in
      let frame : IsFrame (all_seen steps) counted.q seen = shows counted.q counted.step seen counted.is.0 shown in
      let here : IndexNames (all_seen steps) counted.q q = names counted.q q start counted.t seen frame at counted.counts first in
      let before : counted.t < 3 * start = counts_before plan start counted.t counted.counts in
      let less : counted.q < q = omega (arith, ints, at, first, before) in
      named_on start q counted.q counted.t at counted.counts first here (q - (counted.q + 1)) q (omega (arith, less)) (omega arith)

  -- and only then
  counted_by : (start q : ℕ) → SwitchesAt (all_seen steps) q → (first_frame +ℤ pos q) ≡ pos (3 * start) → GivesCountdown plan start items
  counted_by start q named first =
      let (seen, frame, above, there) = named.names in
      let (t, at, below, shown) = frame_seen plan window first_frame frame_limit pairs steps named.by seen given frame in
      let (step, here, shows) = mapped_at (λ (s : FeedStep). seen_in s.item) steps named.by (Some seen) frame in
      let position : seen.position ≡ t % 3 = shown.position in
      let index : seen.index ≡ index_of plan (t / 3) = shown.index in
      let number : q ≡ (named.by + 3 * seen.index) - seen.position = there in
      let ahead : q + t ≡ named.by + 3 * start = omega (arith, ints, at, first) in
      record {
        t = t;
        q = named.by;
        step = step;
        is = (here, at);
        is_frame = frame_if step.item seen shows;
        counts = (omega (arith, index, above), omega (arith, position, index, above, number, ahead));
      }

  reports : (start : ℕ) → CanReport plan start items → SwitchesBefore (3 * start) items
  reports start (counted, has) =
      let stand : SwitchesAt (all_seen steps) has.q = switches start has.q counted has.is.1 in
      record {
        q = has.q;
        step = has.step;
        is = has.is;
        before = StandsBefore-same (all_seen steps) has.q has.step.before (Some (Switch has.q)) (given.before has.q has.step.before (stands has.q has.step has.step.before has.is.0 refl)) (refl, stand);
      }

  can : (start : ℕ) → SwitchesBefore (3 * start) items → CanReport plan start items
  can start switch =
      let stand = given.before switch.q (Some (Switch switch.q)) (stands switch.q switch.step (Some (Switch switch.q)) switch.is.0 switch.before) in
      (counted_by start switch.q stand.1 switch.is.1, record { q = switch.q; step = switch.step; is = switch.is })

  resumes : (q : ℕ) (step : FeedStep) → slice_get steps q ≡ Some step → ResumesAt (all_seen steps) q → FollowsMissedCountdown plan items q step
  resumes q step at resumed =
      let r : ℕ = resumed.r in
      let before : r < q = resumed.last.before in
      let (a, at_a, below_a, old) = frame_seen plan window first_frame frame_limit pairs steps r resumed.old given resumed.last.frame in
      let (b, at_b, below_b, new) = frame_seen plan window first_frame frame_limit pairs steps q resumed.new given resumed.frame in
      let (step', here, shows) = mapped_at (λ (s : FeedStep). seen_in s.item) steps q (Some resumed.new) resumed.frame in
      let same : step' ≡ step = same_step step' step (sym here ∙ at) in
      let on : b ≡ a + (q - r) = omega (arith, ints, at_a, at_b, before) in
      let old_is : signature_at plan a ≡ Some resumed.old.signature = old.signature in
      let new_is : signature_at plan (a + (q - r)) ≡ Some resumed.new.signature = subst (λ (n : ℕ). signature_at plan n ≡ Some resumed.new.signature) on new.signature in
      let between = starts_between plan (announces plan is) (q - r) a (λ e. resumed.differ (same_signature resumed.old.signature resumed.new.signature (sym old_is ∙ e ∙ new_is))) in
      let behind : a < 3 * between.start = between.behind in
      let up : 3 * between.start ≤ a + (q - r) = between.up_to in
      let f : ℕ = r + (3 * between.start - a) in
      record {
        t = b;
        is = (at, at_b);
        is_frame = subst (λ (s : FeedStep). IsAFrame s.item) same (frame_if step'.item resumed.new shows);
        start = between.start;
        starts = between.is;
        behind = omega (arith, on, up);
        missed = λ counted. resumed.quiet f (omega (arith, behind)) (omega (arith, behind, up, before)) (switches between.start f counted (omega (arith, ints, at_a, behind)));
      }
    where
      same_signature : (a b : Signature) → Some a ≡ Some b → a ≡ b
      same_signature a b e = cc

  pub reports_reconfigurations : ReportsReconfigurations plan items
  reports_reconfigurations = record {
    only = λ q f step at before.
        let (same, (t, of, starts)) = switches_at_starts plan window first_frame frame_limit pairs steps q f is given (stands q step (Some (Switch f)) at before) in
        (same, (t, (at, of), starts));
    exactly = λ start. (can start, reports start);
    resumed = λ q p step at before.
        let stand = given.before q (Some (Resumed p)) (stands q step (Some (Resumed p)) at before) in
        (stand.0, resumes q step at stand.1);
  }
