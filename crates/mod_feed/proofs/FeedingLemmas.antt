-- A feed answers in one way, steps join, and what is told before items is what stands there.
use Rattle.std.proofs.Common.{◌≡◌, ℕ, ◌+◌, ◌<◌, List, [], ◌∷◌, length, slice_get, suc, Option, None, Some, refl, sym, ap, ap₂, subst, ◌∙◌, arith}
use Rattle.dcp_collect.specs.CollectorState.{CollectorState}
use Rattle.dcp_collect.specs.Runs.{CollectorItem as Given, Packet, Lost, Damaged, IsItem}
use Rattle.drm_reconfiguration.specs.declared.seen.Seen.{Seen}
use Rattle.drm_reconfiguration.specs.declared.tracker.Before.{Before}
use Rattle.drm_reconfiguration.specs.Tracker.{TrackerState, new_tracker, answered, answers, stepped}
use Rattle.drm_reconfiguration.proofs.TrackerLemmas.{tells_the_switches}
use Rattle.mod_feed.specs.Items.{FrameItem, number_of, seen_in}
use Rattle.mod_feed.specs.Feeding.{FeedStep, IsStep, after_step, FeedAnswers, befores_of, all_seen, IsOneFeeding, FeedingJoins, FeedTellsTheSwitches}
use Rattle.mod_feed.proofs.ItemLemmas.{item_is_one}

one_step : (feed : TrackerState) (given : Given) (step other : FeedStep) → IsStep feed given step → IsStep feed given other → other ≡ step
one_step feed given step other is is' =
    let item : other.item ≡ step.item = item_is_one given step.item other.item is.item is'.item in
    let before : other.before ≡ step.before =
    is'.before ∙ ap (λ (i : FrameItem). answered feed (seen_in i)) item ∙ sym is.before in
    ap₂ (λ (b : Option Before) (i : FrameItem). record { before = b; item = i }) before item

pub feeding_is_one : IsOneFeeding
feeding_is_one feed after after' [] [] [] h k = (refl, k ∙ sym h)
feeding_is_one feed after after' [] [] (step' ∷ steps') h k = absurd k
feeding_is_one feed after after' [] (step ∷ steps) steps' h k = absurd h
feeding_is_one feed after after' (given ∷ more) [] steps' h k = absurd h
feeding_is_one feed after after' (given ∷ more) (step ∷ steps) [] h k = absurd k
feeding_is_one feed after after' (given ∷ more) (step ∷ steps) (step' ∷ steps') h k =
    let same : step' ≡ step = one_step feed given step step' h.0 k.0 in
    let rest : FeedAnswers (after_step feed step) more steps' after' =
    subst (λ (s : FeedStep). FeedAnswers (after_step feed s) more steps' after') same k.1 in
    let r = feeding_is_one (after_step feed step) after after' more steps steps' h.1 rest in
    (ap₂ (λ (s : FeedStep) (ss : List FeedStep). s ∷ ss) same r.0, r.1)

pub feedings_join : FeedingJoins
feedings_join feed mid after [] more [] later h k = subst (λ (f : TrackerState). FeedAnswers f more later after) h k
feedings_join feed mid after [] more (step ∷ steps) later h k = absurd h
feedings_join feed mid after (given ∷ others) more [] later h k = absurd h
feedings_join feed mid after (given ∷ others) more (step ∷ steps) later h k =
    (h.0, feedings_join (after_step feed step) mid after others more steps later h.1 k)

-- what is told is what the tracker answers to what is seen
befores_are : (feed after : TrackerState) (given : List Given) (steps : List FeedStep) → FeedAnswers feed given steps after → befores_of steps ≡ answers feed (all_seen steps)
befores_are feed after [] [] h = refl
befores_are feed after [] (step ∷ steps) h = absurd h
befores_are feed after (given ∷ more) [] h = absurd h
befores_are feed after (given ∷ more) (step ∷ steps) h =
    ap₂ (λ (b : Option Before) (bs : List (Option Before)). b ∷ bs) h.0.before (befores_are (after_step feed step) after more steps h.1)

-- each item is seen once
length-seen : (feed after : TrackerState) (given : List Given) (steps : List FeedStep) → FeedAnswers feed given steps after → length (all_seen steps) ≡ length given
length-seen feed after [] [] h = refl
length-seen feed after [] (step ∷ steps) h = absurd h
length-seen feed after (given ∷ more) [] h = absurd h
length-seen feed after (given ∷ more) (step ∷ steps) h = ap suc (length-seen (after_step feed step) after more steps h.1)

pub feed_tells : FeedTellsTheSwitches
feed_tells given steps after h k before =
    let befores = befores_are new_tracker after given steps h in
    let size = length-seen new_tracker after given steps h in
    let law = tells_the_switches (all_seen steps) k before in (
      λ e.
          let stands = law.0 (subst (λ (bs : List (Option Before)). slice_get bs k ≡ Some before) befores e) in
          (subst (λ (n : ℕ). k < n) size stands.0, stands.1),
      λ (within, stands).
          subst (λ (bs : List (Option Before)). slice_get bs k ≡ Some before) (sym befores) (law.1 (subst (λ (n : ℕ). k < n) (sym size) within, stands)),
    )

-- ---- numbers

-- an item has the number that is next
pub number_is : (c : CollectorState) (given : Given) → IsItem c given → number_of given ≡ c.next
number_is c (Packet q bytes) is = is.0
number_is c (Lost q had total) is = is.0
number_is c (Damaged q) is = is.0

pub stepped_calls : (feed : TrackerState) (seen : Option Seen) → (stepped feed seen).calls ≡ feed.calls + 1
stepped_calls feed None = refl
stepped_calls feed (Some seen) = refl

-- a feed makes as many calls as items are given to it
pub feeds_calls : (feed after : TrackerState) (given : List Given) (steps : List FeedStep) → FeedAnswers feed given steps after → after.calls ≡ feed.calls + length given
feeds_calls feed after [] [] h = ap (λ (s : TrackerState). s.calls) h ∙ omega arith
feeds_calls feed after [] (step ∷ steps) h = absurd h
feeds_calls feed after (g ∷ given) [] h = absurd h
feeds_calls feed after (g ∷ given) (step ∷ steps) h =
    let one : (after_step feed step).calls ≡ feed.calls + 1 = stepped_calls feed (seen_in step.item) in
    let more : after.calls ≡ (after_step feed step).calls + length given = feeds_calls (after_step feed step) after given steps h.1 in
    omega (arith, one, more)
