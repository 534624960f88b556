-- Which frames count down to a reconfiguration: all those from the first one that does up to the reconfiguration.
use Rattle.std.proofs.Common.{ℕ, zero, suc, ◌≡◌, ◌+◌, ◌-◌, ◌*◌, ◌/◌, ◌<◌, ◌≤◌, nat_le, nat_lt, Bool, true, false, cond, List, [], ◌∷◌, Contains, Option, Some, None, refl, sym, ap, subst, ◌∙◌, arith}
use Rattle.std.specs.List.{find}
use Rattle.std.proofs.lemmas.Bool.{and_parts, leb-true, ltb-true}
use Rattle.std.proofs.lemmas.List.Elements.{All-contains}
use Rattle.drm_schedule.specs.Announcement.{countdown_start}
use Rattle.drm_schedule.specs.declared.config.Config.{Config}
use Rattle.drm_schedule.specs.declared.plan.Plan.{Plan}
use Rattle.drm_schedule.specs.Valid.{IsSchedule, AreFaultless}
use Rattle.drm_schedule.proofs.Faultless.{all_faultless}
use Rattle.drm_timeline.specs.Standing.{is_counting, announced_in, frames_before, index_of}
use Rattle.drm_timeline.proofs.StartsLemmas.{IsAnnouncedIn, all_announced}
use Rattle.law_delivery.proofs.SwitchLaws.{announces}
use Rattle.law_agreement.specs.Reconfigurations.{CountsDownTo, IsInCountdown}
use Rattle.law_agreement.specs.Laws.{CountdownsAreTheSchedules}

some_is : (a b : Config) → Some a ≡ Some b → a ≡ b
some_is a b same = cc

-- what is found in a list is one of it, and passes the test
found : (p : Config → Bool) (cs : List Config) (c : Config) → find p cs ≡ Some c → Contains cs c × (p c ≡ true)
found p [] c is = absurd (let e : None ≡ Some c = is in cc)
found p (x ∷ more) c is = by (found p more c) (p x) refl is
  where
    by : (find p more ≡ Some c → Contains more c × (p c ≡ true)) → (b : Bool) → p x ≡ b → cond b (Some x) (find p more) ≡ Some c → Contains (x ∷ more) c × (p c ≡ true)
    by rest true passes same =
        let e : x ≡ c = some_is x c same in
        ((zero, omega arith, e), subst (λ (d : Config). p d ≡ true) e passes)
    by rest false passes same =
        let (there, is) = rest same in
        ((suc there.0, omega (arith, there.1), there.2), is)

-- From a super frame whose index is above 0 up to the one that it counts down to, each counts down to that one.
index_on : (plan : Plan) → IsSchedule plan → (sf later : ℕ) → 0 < index_of plan sf → sf ≤ later → later < sf + index_of plan sf
    → index_of plan later ≡ (sf + index_of plan sf) - later
index_on plan is sf later above low high = by (announced_in plan sf) refl above high
  where
    are : AreFaultless plan None plan.configs
    are = all_faultless plan 0 None plan.configs is.valid

    by : (o : Option Config) → announced_in plan sf ≡ o → 0 < frames_before sf o → later < sf + frames_before sf o → index_of plan later ≡ (sf + frames_before sf o) - later
    by None at above high = absurd (omega (arith, above))
    by (Some c) at above high =
        let (there, counting) = found (is_counting sf) plan.configs c at in
        let (begun, ahead) = and_parts (nat_le (countdown_start c) sf) (nat_lt sf c.start) counting in
        let from : countdown_start c ≤ sf = leb-true (countdown_start c) sf begun in
        let before : sf < c.start = ltb-true sf c.start ahead in
        let announced : IsAnnouncedIn plan.configs c = All-contains (IsAnnouncedIn plan.configs) plan.configs c (all_announced plan None plan.configs are) there in
        ap (frames_before later) (announced later (omega (arith, from, low)) (omega (arith, high, before))) ∙ omega (arith, before)

-- what the index of a super frame counts down to is the start of a configuration, in whose countdown it lies
in_countdown : (plan : Plan) (start t : ℕ) → CountsDownTo plan start t → IsInCountdown plan start t
in_countdown plan start t (above, counts) = by (announced_in plan (t / 3)) refl above counts
  where
    by : (o : Option Config) → announced_in plan (t / 3) ≡ o → 0 < frames_before (t / 3) o → t / 3 + frames_before (t / 3) o ≡ start → IsInCountdown plan start t
    by None at above counts = absurd (omega (arith, above))
    by (Some c) at above counts =
        let (there, counting) = found (is_counting (t / 3)) plan.configs c at in
        let (begun, ahead) = and_parts (nat_le (countdown_start c) (t / 3)) (nat_lt (t / 3) c.start) counting in
        let from : countdown_start c ≤ t / 3 = leb-true (countdown_start c) (t / 3) begun in
        let before : t / 3 < c.start = ltb-true (t / 3) c.start ahead in
        let starts : c.start ≡ start = omega (arith, counts, before) in
        record { config = c; is = there; starts = starts; counting = omega (arith, from, starts); before = omega (arith, before, starts) }

counts_in : (plan : Plan) (start t : ℕ) → IsSchedule plan → IsInCountdown plan start t → CountsDownTo plan start t
counts_in plan start t is in_it =
    let c : Config = in_it.config in
    let starts : c.start ≡ start = in_it.starts in
    let counting : start ≤ t / 3 + c.countdown = in_it.counting in
    let before : t / 3 < start = in_it.before in
    let ahead : ℕ = c.start - t / 3 in
    let counted : index_of plan (c.start - ahead) ≡ ahead = (announces plan is).counts c in_it.is ahead (omega (arith, starts, before)) (omega (arith, starts, counting)) in
    let here : c.start - ahead ≡ t / 3 = omega (arith, starts, before) in
    let index : index_of plan (t / 3) ≡ ahead = ap (index_of plan) (sym here) ∙ counted in
    (omega (arith, index, starts, before), omega (arith, index, starts, before))

pub countdowns : CountdownsAreTheSchedules
countdowns plan start t is = (in_countdown plan start t, counts_in plan start t is)

-- A frame behind one that counts down to a super frame, and before that, counts down to it, too.
pub counts_on : (plan : Plan) → IsSchedule plan → (start t later : ℕ) → CountsDownTo plan start t → t ≤ later → later < 3 * start → CountsDownTo plan start later
counts_on plan is start t later (above, counts) low high =
    let on : index_of plan (later / 3) ≡ (t / 3 + index_of plan (t / 3)) - later / 3 = index_on plan is (t / 3) (later / 3) above (omega (arith, low)) (omega (arith, counts, high)) in
    (omega (arith, on, counts, high), omega (arith, on, counts, high))

-- and each such frame is before that super frame
pub counts_before : (plan : Plan) (start t : ℕ) → CountsDownTo plan start t → t < 3 * start
counts_before plan start t (above, counts) = omega (arith, above, counts)
