-- What two modulators report, neither of which misses a frame.
use Rattle.std.proofs.Common.{ℕ, suc, ◌≡◌, ◌*◌, ◌<◌, List, [], ◌∷◌, ◌++◌, length, slice_get, Option, Some, None, refl, sym, ap, ap₂, ◌∙◌, arith}
use Rattle.std.specs.Prelude.{ℤ, pos, ◌+ℤ◌}
use Rattle.std.proofs.lemmas.Int.{ints}
use Rattle.std.proofs.lemmas.Option.{slice_get_within}
use Rattle.drm_schedule.specs.declared.plan.Plan.{Plan}
use Rattle.drm_reconfiguration.specs.declared.tracker.Before.{Before}
use Rattle.drm_reconfiguration.specs.declared.tracker.Before.TheVariants.{Switch, Resumed}
use Rattle.drm_reconfiguration.specs.Switches.{StandsBefore}
use Rattle.mod_feed.specs.Feeding.{FeedStep, befores_of, all_seen}
use Rattle.law_delivery.specs.Given.{AreAllFrames}
use Rattle.law_delivery.proofs.Places.{map_at}
use Rattle.report_text.specs.Report.{before_line, item_line, step_text}
use Rattle.report_text.specs.Reports.{steps_text}
use Rattle.recv_report.specs.Headline.{ReportsSwitches}
use Rattle.law_agreement.specs.Agreement.{HaveSameBefore}

some_before : (a b : Option Before) → Some a ≡ Some b → a ≡ b
some_before a b same = cc

none_switch : (f : ℕ) → ◌≡◌ {A = Option Before} None (Some (Switch f)) → ⊥
none_switch f e = absurd cc

stood : (steps : List FeedStep) (q : ℕ) (step : FeedStep) (before : Option Before) → slice_get steps q ≡ Some step → step.before ≡ before → slice_get (befores_of steps) q ≡ Some before
stood steps q step before at same = map_at (λ (s : FeedStep). s.before) steps q step at ∙ ap (λ (o : Option Before). Some o) same

-- a switch before an item of the one stands before that of the other
module _ (plan : Plan) (one_first : ℤ) (one : List FeedStep) (other_first : ℤ) (other : List FeedStep)
    (switches : ReportsSwitches plan one_first one) (others : ReportsSwitches plan other_first other) (all : AreAllFrames other) where
  stands_too : (t q q' f : ℕ) (step step' : FeedStep) → slice_get one q ≡ Some step → (one_first +ℤ pos q) ≡ pos t → slice_get other q' ≡ Some step' → (other_first +ℤ pos q') ≡ pos t
      → 0 < q' → step.before ≡ Some (Switch f) → step'.before ≡ Some (Switch q')
  stands_too t q q' f step step' at of at' of' above before =
      let (same, (t1, of1, (start, contains, is))) = switches.only q f (stood one q step (Some (Switch f)) at before) in
      let place : (other_first +ℤ pos q') ≡ pos (3 * start) = omega (arith, ints, of, of', of1, is) in
      let stands : slice_get (befores_of other) q' ≡ Some (Some (Switch q')) = others.each all start q' contains place above (slice_get_within other q' step' at') in
      some_before step'.before (Some (Switch q')) (sym (stood other q' step' step'.before at' refl) ∙ stands)

module _ (plan : Plan) (one_first : ℤ) (one : List FeedStep) (other_first : ℤ) (other : List FeedStep)
    (switches : ReportsSwitches plan one_first one) (others : ReportsSwitches plan other_first other) (all : AreAllFrames one) (all' : AreAllFrames other) where
  pub same_before : (t q q' : ℕ) (step step' : FeedStep) → slice_get one q ≡ Some step → (one_first +ℤ pos q) ≡ pos t → slice_get other q' ≡ Some step' → (other_first +ℤ pos q') ≡ pos t
      → 0 < q → 0 < q' → HaveSameBefore q q' step.before step'.before
  same_before t q q' step step' at of at' of' above above' = by step.before step'.before refl refl
    where
      by : (b b' : Option Before) → step.before ≡ b → step'.before ≡ b' → HaveSameBefore q q' b b'
      by None None is is' = tt
      by None (Some (Switch f)) is is' =
          absurd (none_switch q (sym is ∙ stands_too plan other_first other one_first one others switches all t q' q f step' step at' of' at of above is'))
      by (Some (Switch f)) None is is' =
          absurd (none_switch q' (sym is' ∙ stands_too plan one_first one other_first other switches others all' t q q' f step step' at of at' of' above' is))
      by (Some (Switch f)) (Some (Switch f')) is is' =
          ((switches.only q f (stood one q step (Some (Switch f)) at is)).0, (others.only q' f' (stood other q' step' (Some (Switch f')) at' is')).0)
      by (Some (Resumed p)) b' is is' = absurd (switches.none_resumed all q p (stood one q step (Some (Resumed p)) at is))
      by None (Some (Resumed p)) is is' = absurd (others.none_resumed all' q' p (stood other q' step' (Some (Resumed p)) at' is'))
      by (Some (Switch f)) (Some (Resumed p)) is is' = absurd (others.none_resumed all' q' p (stood other q' step' (Some (Resumed p)) at' is'))

-- under one number the same stands before both
pub equal_before : (q : ℕ) (b b' : Option Before) → HaveSameBefore q q b b' → b ≡ b'
equal_before q None None same = refl
equal_before q None (Some (Switch f)) same = absurd same
equal_before q None (Some (Resumed f)) same = absurd same
equal_before q (Some (Switch f)) None same = absurd same
equal_before q (Some (Switch f)) (Some (Switch f')) same = ap (λ (n : ℕ). Some (Switch n)) (same.0 ∙ sym same.1)
equal_before q (Some (Switch f)) (Some (Resumed f')) same = absurd same
equal_before q (Some (Resumed f)) b' same = absurd same

-- nothing stands before the first item
pub none_first : (plan : Plan) (first_frame : ℤ) (steps : List FeedStep) (step : FeedStep)
    → ((q : ℕ) (before : Option Before) → slice_get (befores_of steps) q ≡ Some before → StandsBefore (all_seen steps) q before)
    → slice_get steps 0 ≡ Some step → step.before ≡ None
none_first plan first_frame steps step stands at = by step.before refl
  where
    by : (b : Option Before) → step.before ≡ b → b ≡ None
    by None is = refl
    by (Some (Switch f)) is =
        let switches = (stands 0 (Some (Switch f)) (stood steps 0 step (Some (Switch f)) at is)).1 in
        absurd (omega (arith, switches.before))
    by (Some (Resumed p)) is =
        let resumes = (stands 0 (Some (Resumed p)) (stood steps 0 step (Some (Resumed p)) at is)).1 in
        absurd (omega (arith, resumes.last.before))

-- lists of steps whose texts are the same, one by one, have the same text
pub same_text : (xs ys : List FeedStep) → length xs ≡ length ys
    → ((q : ℕ) (step step' : FeedStep) → slice_get xs q ≡ Some step → slice_get ys q ≡ Some step' → step_text step ≡ step_text step') → steps_text xs ≡ steps_text ys
same_text [] [] size each = refl
same_text [] (y ∷ ys) size each = absurd (omega (arith, size))
same_text (x ∷ xs) [] size each = absurd (omega (arith, size))
same_text (x ∷ xs) (y ∷ ys) size each =
    ap₂ (λ (a b : List ℕ). a ++ b) (each 0 x y refl refl) (same_text xs ys (omega (arith, size)) (λ q step step' at at'. each (suc q) step step' at at'))

-- the text of a step, by what stands before it and its line
pub same_step_text : (x y : FeedStep) → x.before ≡ y.before → item_line x.item ≡ item_line y.item → step_text x ≡ step_text y
same_step_text x y before line = ap₂ (λ (a b : List ℕ). a ++ b) (ap before_line before) line
