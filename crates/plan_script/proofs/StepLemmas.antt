-- What a line does to the feeds.
use Rattle.std.proofs.Common.{◌≡◌, ℕ, ◌+◌, ◌<◌, ◌≤◌, nat_lt, true, false, List, [], ◌∷◌, ◌++◌, length, Option, Some, None, Result, Ok, Err, refl, sym, ap, subst, ◌∙◌, arith}
use Rattle.std.specs.Prelude.{◌==◌, OnOk}
use Rattle.std.proofs.lemmas.Bool.Decides.{nat_tests}
use Rattle.std.proofs.lemmas.List.{length-append}
use Rattle.drm_schedule.specs.declared.invalid.Reason.{Reason}
use Rattle.drm_schedule.specs.declared.invalid.Reason.TheVariants as reasons
use Rattle.drm_schedule.specs.declared.plan.Plan.{Plan}
use Rattle.plan_script.specs.declared.delivery.Delivery.{Delivery}
use Rattle.plan_script.specs.declared.fault.ScriptFault.{ScriptFault}
use Rattle.plan_script.specs.declared.fault.ScriptFault.TheVariants as faults
use Rattle.plan_script.specs.declared.feeds.Feeds.{Feeds}
use Rattle.plan_script.specs.declared.line.ScriptLine.TheVariants as lines
use Rattle.plan_script.specs.declared.line.Delivers.{Delivers}
use Rattle.text_lines.specs.Faults.{fault}
use Rattle.plan_script.specs.Script.{ScriptTextFault, is_too_long, delivered}
use Rattle.plan_script.specs.Steps.{AreCounted, FeedBegins, KeepsPackets, ScriptSteps, begun, feeds_in, feeds_after, to_last, with_all}
use Rattle.plan_script.proofs.FeedLemmas.{begun_counted, begun_long, more_counted, more_feeds, more_long}

abbrev pub gives : List (List Delivery) → Result (List (List Delivery)) ScriptTextFault
gives feeds = Ok feeds

abbrev pub breaks : ℕ → Reason → Result (List (List Delivery)) ScriptTextFault
breaks n reason = Err (fault n reason)

below : (n : ℕ) → n ≤ 15 → nat_lt 15 n ≡ false
below n few = grind (arith, nat_tests)

above : (n : ℕ) → 15 < n → nat_lt 15 n ≡ true
above n many = grind (arith, nat_tests)

-- a line with which a feed begins
pub begins : (plan : Plan) (old new : Feeds) (n : ℕ) (r : Result (Unit {0}) ScriptFault) → AreCounted plan old → FeedBegins r n new (begun old) → ScriptSteps r (feeds_in new) (feeds_after plan (feeds_in old) n lines.Feed)
unfolding feeds_after
begins plan old new n (Ok done) counted e = rw (begun_long plan old counted ∙ below (length (feeds_in old)) e.1, e.0) refl
begins plan old new n (Err faults.NoMemory) counted e = tt
begins plan old new n (Err (faults.Line line reason)) counted e = rw (begun_long plan old counted ∙ above (length (feeds_in old)) e.2, e.0, e.1) refl

pub begins_counted : (plan : Plan) (old new : Feeds) (n : ℕ) (r : Result (Unit {0}) ScriptFault) → AreCounted plan old → FeedBegins r n new (begun old) → OnOk r (AreCounted plan new)
begins_counted plan old new n (Ok done) counted e = subst (AreCounted plan) (sym e.0) (begun_counted plan old counted e.1)
begins_counted plan old new n (Err p) counted e = tt

pub some_length : (closed : List (List Delivery)) (feed : List Delivery) → (length (closed ++ feed ∷ []) == 0) ≡ false
some_length closed feed =
    let n : length (closed ++ feed ∷ []) ≡ length closed + 1 = length-append closed (feed ∷ []) in
    grind (arith, nat_tests)

-- a line that delivers to the last feed
puts : (plan : Plan) (old new : Feeds) (feed : List Delivery) (n : ℕ) (d : Delivers) (r : Result (Unit {0}) ScriptFault) → AreCounted plan old → old.current ≡ Some feed
    → KeepsPackets r n new (with_all plan (delivered plan d) old) → ScriptSteps r (feeds_in new) (feeds_after plan (feeds_in old) n (lines.Deliver d))
unfolding feeds_after
puts plan old new feed n d (Ok done) counted is e =
    let some : (length (feeds_in old) == 0) ≡ false = rw is (some_length old.closed feed) in
    let long : is_too_long plan (to_last (delivered plan d) (feeds_in old)) ≡ false = more_long plan (delivered plan d) old feed counted is ∙ e.1 in
    rw (some, long) (ap gives (sym (more_feeds plan (delivered plan d) old feed is)) ∙ ap (λ (f : Feeds). gives (feeds_in f)) (sym e.0))
puts plan old new feed n d (Err faults.NoMemory) counted is e = tt
puts plan old new feed n d (Err (faults.Line line reason)) counted is e =
    let some : (length (feeds_in old) == 0) ≡ false = rw is (some_length old.closed feed) in
    let long : is_too_long plan (to_last (delivered plan d) (feeds_in old)) ≡ true = more_long plan (delivered plan d) old feed counted is ∙ e.2 in
    rw (some, long, e.0, e.1) refl

puts_counted : (plan : Plan) (old new : Feeds) (feed : List Delivery) (n : ℕ) (d : Delivers) (r : Result (Unit {0}) ScriptFault) → AreCounted plan old → old.current ≡ Some feed
    → KeepsPackets r n new (with_all plan (delivered plan d) old) → OnOk r (AreCounted plan new)
puts_counted plan old new feed n d (Ok done) counted is e = subst (AreCounted plan) (sym e.0) (more_counted plan (delivered plan d) old feed counted is e.1)
puts_counted plan old new feed n d (Err p) counted is e = tt

pub no_feeds : (old : Feeds) → old.current ≡ None → old.closed ≡ [] → (length (feeds_in old) == 0) ≡ true
no_feeds old none empty = rw (none, empty) refl

-- a line that delivers where there is no feed
misses : (plan : Plan) (old : Feeds) (n : ℕ) (d : Delivers) → AreCounted plan old → old.current ≡ None → feeds_after plan (feeds_in old) n (lines.Deliver d) ≡ breaks n reasons.Missing
unfolding feeds_after
misses plan old n d counted none = rw (no_feeds old none (counted.closed none)) refl

-- a line that delivers
pub record Adds (plan : Plan) (old new : Feeds) (n : ℕ) (d : Delivers) (r : Result (Unit {0}) ScriptFault) : Type 0 where
  pub without : old.current ≡ None → r ≡ Err (faults.Line n reasons.Missing)
  pub within : (old.current ≡ None → ⊥) → KeepsPackets r n new (with_all plan (delivered plan d) old)

pub adds : (plan : Plan) (old new : Feeds) (n : ℕ) (d : Delivers) (r : Result (Unit {0}) ScriptFault) → AreCounted plan old → Adds plan old new n d r
    → ScriptSteps r (feeds_in new) (feeds_after plan (feeds_in old) n (lines.Deliver d))
adds plan old new n d r counted e = by old.current refl
  where
    by : (o : Option (List Delivery)) → o ≡ old.current → ScriptSteps r (feeds_in new) (feeds_after plan (feeds_in old) n (lines.Deliver d))
    by None is = rw (e.without (sym is)) (misses plan old n d counted (sym is))
    by (Some feed) is = puts plan old new feed n d r counted (sym is) (e.within (λ none. absurd cc))

pub adds_counted : (plan : Plan) (old new : Feeds) (n : ℕ) (d : Delivers) (r : Result (Unit {0}) ScriptFault) → AreCounted plan old → Adds plan old new n d r → OnOk r (AreCounted plan new)
adds_counted plan old new n d r counted e = by old.current refl
  where
    by : (o : Option (List Delivery)) → o ≡ old.current → OnOk r (AreCounted plan new)
    by None is = rw (e.without (sym is)) tt
    by (Some feed) is = puts_counted plan old new feed n d r counted (sym is) (e.within (λ none. absurd cc))
