-- Strays are refused, and all else is as without them.
use Rattle.std.proofs.Common.{ℕ, ◌≡◌, ◌≤◌, true, false, List, [], ◌∷◌, ◌++◌, length, take, drop, Option, None, refl, sym, ap, subst, ◌∙◌}
use Rattle.std.specs.Prelude.{ℤ}
use Rattle.std.specs.List.{AllByRecursion, AllZip}
use Rattle.std.proofs.lemmas.List.{append-nil, take-append-drop}
use Rattle.drm_schedule.specs.declared.plan.Plan.{Plan}
use Rattle.dcp_collect.specs.declared.taken.Taken.{Taken}
use Rattle.dcp_collect.specs.declared.taken.Taken.TheVariants.{Refused}
use Rattle.dcp_collect.specs.CollectorState.{CollectorState, made, ready}
use Rattle.dcp_collect.specs.Runs.{CollectorItem as Collected, CollectorTakes, CollectorGives, CollectorSteps}
use Rattle.drm_schedule.specs.Valid.{IsSchedule}
use Rattle.law_collect.specs.Delivery.{number, newer_number, IsWithinSpan, IsFirstPacket}
use Rattle.law_collect.specs.Laws.{IsTakenWell, Refusing}
use Rattle.law_collect.proofs.Following.{follows_new}
use Rattle.law_delivery.proofs.Following.{Stands, low_of, stands_pair, stands_foreign, foreign_cause, foreign_takes, far_front}
use Rattle.law_delivery.specs.Sent.{Arrival, OfSchedule, Foreign, IsArrival, AreSent, pairs_in, IsDeliveryOf}
use Rattle.law_delivery.specs.Laws.{AnswerSuits, Delivering, DeliveringEarly, ForeignRefused}
use Rattle.law_delivery.proofs.Paired.{IsPaired, DeliveringPairs, PairsEarly, PairsRight}

-- ---- the arrivals in two parts

pub front_arrives : (plan : Plan) (arrivals : List Arrival) (ds later : List (List ℕ)) → AllZip (IsArrival plan) arrivals (ds ++ later)
    → AllZip (IsArrival plan) (take (length ds) arrivals) ds × AllZip (IsArrival plan) (drop (length ds) arrivals) later
front_arrives plan arrivals [] later all = (tt, all)
front_arrives plan [] (d ∷ ds) later all = absurd all
front_arrives plan (a ∷ arrivals) (d ∷ ds) later all =
    let rest = front_arrives plan arrivals ds later all.1 in ((all.0, rest.0), rest.1)

pairs_join : (front back : List Arrival) → pairs_in (front ++ back) ≡ pairs_in front ++ pairs_in back
pairs_join [] back = refl
pairs_join (OfSchedule pair ∷ front) back = ap (λ l. pair ∷ l) (pairs_join front back)
pairs_join (Foreign cause ∷ front) back = pairs_join front back

sent_join : (plan : Plan) (pairs more : List (ℕ × ℕ)) (ds later : List (List ℕ)) → AreSent plan pairs ds → AreSent plan more later → AreSent plan (pairs ++ more) (ds ++ later)
sent_join plan [] more [] later sent rest = rest
sent_join plan [] more (d ∷ ds) later sent rest = absurd sent
sent_join plan (pair ∷ pairs) more [] later sent rest = absurd sent
sent_join plan (pair ∷ pairs) more (d ∷ ds) later sent rest = (sent.0, sent_join plan pairs more ds later sent.1 rest)

-- the datagrams that aren't foreign
pub others_of : (plan : Plan) (arrivals : List Arrival) (ds : List (List ℕ)) → AllZip (IsArrival plan) arrivals ds → (others : List (List ℕ)) × AreSent plan (pairs_in arrivals) others
others_of plan [] ds all = ([], tt)
others_of plan (a ∷ arrivals) [] all = absurd all
others_of plan (OfSchedule pair ∷ arrivals) (d ∷ ds) all =
    let rest = others_of plan arrivals ds all.1 in (d ∷ rest.0, (all.0, rest.1))
others_of plan (Foreign cause ∷ arrivals) (d ∷ ds) all = others_of plan arrivals ds all.1

-- ---- without the foreign datagrams

-- The same steps over the datagrams that aren't foreign.
record Without (plan : Plan) (c after : CollectorState) (arrivals : List Arrival) (answers : List Taken) (items : List Collected) : Type 0 where
  others : List (List ℕ)
  replies : List Taken
  sent : AreSent plan (pairs_in arrivals) others
  steps : CollectorSteps c others replies items after
  suit : AllByRecursion IsTakenWell replies → AllZip AnswerSuits arrivals answers

-- where nothing was ready, a foreign datagram changes nothing
nothing_given : (c kept mid : CollectorState) (now : List Collected) → ready c ≡ false → kept ≡ c → CollectorGives kept now mid → (now ≡ []) × (mid ≡ c)
nothing_given c kept mid [] idle same gives = (refl, gives.1 ∙ same)
nothing_given c kept mid (item ∷ now) idle same gives =
    absurd (let clash : false ≡ true = sym idle ∙ ap ready (sym same) ∙ gives.0 in cc)

module _ (refusing : Refusing) (plan : Plan) (is : IsSchedule plan) (window reach : ℕ) (first_frame : ℤ) where
  without : (c after : CollectorState) (newest : Option ℕ) (arrivals : List Arrival) (later : List (ℕ × ℕ)) (ds : List (List ℕ)) (answers : List Taken) (items : List Collected)
      → AllZip (IsArrival plan) arrivals ds → Stands plan window reach first_frame newest arrivals later ds c → CollectorSteps c ds answers items after → Without plan c after arrivals answers items
  without c after newest [] later [] [] items all s steps = record { others = []; replies = []; sent = tt; steps = steps; suit = λ right. tt }
  without c after newest [] later [] (a ∷ answers) items all s steps = absurd steps
  without c after newest [] later (d ∷ ds) answers items all s steps = absurd all
  without c after newest (x ∷ arrivals) later [] answers items all s steps = absurd all
  without c after newest (x ∷ arrivals) later (d ∷ ds) [] items all s steps = absurd steps
  without c after newest (OfSchedule pair ∷ arrivals) later (d ∷ ds) (a ∷ answers) items all s (now, more, kept, mid, takes, gives, steps, are) =
      let stands = stands_pair plan is window reach first_frame newest c arrivals later d ds pair kept mid a now s all.0 takes gives in
      let rest = without mid after (newer_number newest (number first_frame pair)) arrivals later ds answers more all.1 stands steps in
      record {
        others = d ∷ rest.others;
        replies = a ∷ rest.replies;
        sent = (all.0, rest.sent);
        steps = (now, more, kept, mid, takes, gives, rest.steps, are);
        suit = λ right. (right.0, rest.suit right.1);
      }
  without c after newest (Foreign cause ∷ arrivals) later (d ∷ ds) (a ∷ answers) items all s (now, more, kept, mid, takes, gives, steps, are) =
      let refused = refusing c kept d a cause takes in
      let is_refusal : a ≡ Refused cause = refused.0.0 (foreign_cause plan is window reach first_frame newest c arrivals later d ds cause s all.0) in
      let none = nothing_given c kept mid now s.idle (refused.1 is_refusal) gives in
      let stands = stands_foreign plan is window reach first_frame newest c arrivals later d ds cause s in
      let rest = without c after newest arrivals later ds answers more all.1 stands (subst (λ m. CollectorSteps m ds answers more after) none.1 steps) in
      record {
        others = rest.others;
        replies = rest.replies;
        sent = rest.sent;
        steps = subst (λ l. CollectorSteps c rest.others rest.replies l after) (sym (are ∙ ap (λ l. l ++ more) none.0)) rest.steps;
        suit = λ right. (is_refusal, rest.suit right);
      }

-- ---- and with them again

module _ (plan : Plan) (is : IsSchedule plan) (window reach : ℕ) (first_frame : ℤ) where
  pub with_foreign : (c after : CollectorState) (newest : Option ℕ) (arrivals : List Arrival) (later : List (ℕ × ℕ)) (ds : List (List ℕ)) (replies : List Taken) (items : List Collected)
      → (all : AllZip (IsArrival plan) arrivals ds) → Stands plan window reach first_frame newest arrivals later ds c
      → CollectorSteps c (others_of plan arrivals ds all).0 replies items after → (answers : List Taken) × CollectorSteps c ds answers items after
  unfolding others_of
  with_foreign c after newest [] later [] replies items all s steps = (replies, steps)
  with_foreign c after newest [] later (d ∷ ds) replies items all s steps = absurd all
  with_foreign c after newest (x ∷ arrivals) later [] replies items all s steps = absurd all
  with_foreign c after newest (OfSchedule pair ∷ arrivals) later (d ∷ ds) [] items all s steps = absurd steps
  with_foreign c after newest (OfSchedule pair ∷ arrivals) later (d ∷ ds) (a ∷ replies) items all s (now, more, kept, mid, takes, gives, steps, are) =
      let stands = stands_pair plan is window reach first_frame newest c arrivals later d ds pair kept mid a now s all.0 takes gives in
      let rest = with_foreign mid after (newer_number newest (number first_frame pair)) arrivals later ds replies more all.1 stands steps in
      (a ∷ rest.0, (now, more, kept, mid, takes, gives, rest.1, are))
  with_foreign c after newest (Foreign cause ∷ arrivals) later (d ∷ ds) replies items all s steps =
      let rest = with_foreign c after newest arrivals later ds replies items all.1 (stands_foreign plan is window reach first_frame newest c arrivals later d ds cause s) steps in
      let takes : CollectorTakes c d (Refused cause) c = foreign_takes plan is window reach first_frame newest c arrivals later d ds cause s all.0 in
      (Refused cause ∷ rest.0, ([], items, c, c, takes, (s.idle, refl), rest.1, refl))

-- ---- the laws

-- a new receiver stands before what it follows
pub stands_new : (plan : Plan) (window reach : ℕ) (first : Option ℕ) (first_frame : ℤ) (arrivals : List Arrival) (datagrams : List (List ℕ)) → IsDeliveryOf plan reach first first_frame arrivals datagrams
    → Stands plan window reach first_frame None arrivals [] datagrams (made window reach first)
stands_new plan window reach first first_frame arrivals datagrams followed =
    let all : pairs_in arrivals ++ [] ≡ pairs_in arrivals = append-nil (pairs_in arrivals) in
    record {
      follows = follows_new plan.seq window reach first_frame first (pairs_in arrivals ++ []) (subst (λ l. IsFirstPacket plan.seq first l first_frame) (sym all) followed.is_first);
      span = subst (IsWithinSpan reach first_frame None) (sym all) followed.within_span;
      low = λ some. low_of reach first_frame (pairs_in arrivals) followed.within_span (subst (λ l. 1 ≤ length l) all some);
      far = followed.far;
      idle = refl;
    }

pub delivering : Refusing → DeliveringPairs → Delivering
delivering refusing law plan window reach first frame_limit first_frame arrivals datagrams answers collected steps after is some followed run feeds =
    let stands = stands_new plan window reach first first_frame arrivals datagrams followed in
    let w = without refusing plan is window reach first_frame (made window reach first) run.mid None arrivals [] datagrams answers run.during followed.arrive stands run.steps in
    let (given, right) = law plan window reach first frame_limit first_frame (pairs_in arrivals) w.others w.replies collected steps after is some
    (record { sent = w.sent; is_first = followed.is_first; within_span = followed.within_span })
    (record { during = run.during; rest = run.rest; mid = run.mid; after = run.after; steps = w.steps; gives = run.gives; are = run.are }) feeds in
    (given, w.suit right)

-- A front of a delivery without the foreign datagrams, and what of it is still to come.
record PrefixWithout (plan : Plan) (reach : ℕ) (first : Option ℕ) (first_frame : ℤ) (arrivals : List Arrival) (n : ℕ) (c mid : CollectorState) (answers : List Taken) (items : List Collected) : Type 0 where
  front : Without plan c mid (take n arrivals) answers items
  more : List (List ℕ)
  paired : IsPaired plan reach first first_frame (pairs_in arrivals) (front.others ++ more)

front_without : Refusing → (plan : Plan) → IsSchedule plan → (window reach : ℕ) (first : Option ℕ) (first_frame : ℤ) (arrivals : List Arrival) (ds later : List (List ℕ)) (answers : List Taken) (items : List Collected) (mid : CollectorState)
    → IsDeliveryOf plan reach first first_frame arrivals (ds ++ later) → CollectorSteps (made window reach first) ds answers items mid
    → PrefixWithout plan reach first first_frame arrivals (length ds) (made window reach first) mid answers items
front_without refusing plan is window reach first first_frame arrivals ds later answers items mid followed steps =
    let n : ℕ = length ds in
    let (front, back) = front_arrives plan arrivals ds later followed.arrive in
    let behind : List (ℕ × ℕ) = pairs_in (drop n arrivals) in
    let are : pairs_in (take n arrivals) ++ behind ≡ pairs_in arrivals =
    sym (pairs_join (take n arrivals) (drop n arrivals)) ∙ ap pairs_in (take-append-drop n arrivals) in
    let stands : Stands plan window reach first_frame None (take n arrivals) behind ds (made window reach first) =
    record {
      follows = follows_new plan.seq window reach first_frame first (pairs_in (take n arrivals) ++ behind) (subst (λ l. IsFirstPacket plan.seq first l first_frame) (sym are) followed.is_first);
      span = subst (IsWithinSpan reach first_frame None) (sym are) followed.within_span;
      low = λ some. low_of reach first_frame (pairs_in arrivals) followed.within_span (subst (λ l. 1 ≤ length l) are some);
      far = far_front reach plan.seq first_frame None arrivals ds later followed.far;
      idle = refl;
    } in
    let w : Without plan (made window reach first) mid (take n arrivals) answers items =
    without refusing plan is window reach first_frame (made window reach first) mid None (take n arrivals) behind ds answers items front stands steps in
    let (more, sent) = others_of plan (drop n arrivals) later back in
    record {
      front = w;
      more = more;
      paired = record {
        sent = subst (λ l. AreSent plan l (w.others ++ more)) are (sent_join plan (pairs_in (take n arrivals)) (pairs_in (drop n arrivals)) w.others more w.sent sent);
        is_first = followed.is_first;
        within_span = followed.within_span;
      };
    }

pub delivering_early : Refusing → PairsEarly → DeliveringEarly
delivering_early refusing law plan window reach n first first_frame arrivals datagrams later answers collected mid steps after is some followed before enough feeds =
    let f = front_without refusing plan is window reach first first_frame arrivals datagrams later answers collected mid followed before in
    law plan window reach n first first_frame (pairs_in arrivals) f.front.others f.more f.front.replies collected mid steps after is some f.paired f.front.steps enough feeds

pub foreign_refused : Refusing → PairsRight → ForeignRefused
foreign_refused refusing law plan window reach first first_frame arrivals datagrams later answers collected mid is some followed before =
    let f = front_without refusing plan is window reach first first_frame arrivals datagrams later answers collected mid followed before in
    f.front.suit (law plan window reach first first_frame (pairs_in arrivals) f.front.others f.more f.front.replies collected mid is some f.paired f.front.steps)
