-- Where each frame is in time, all frames are given.
use Rattle.std.proofs.Common.{ℕ, ◌≡◌, ◌+◌, ◌-◌, ◌<◌, ◌≤◌, ◌⊎◌, inl, inr, Bool, true, false, cond, ◌&&◌, ◌||◌, eqb, List, [], ◌∷◌, length, Option, Some, None, refl, ap, ◌∙◌, arith}
use Rattle.std.specs.Prelude.{ℤ, pos, negsuc}
use Rattle.std.specs.List.{list_any}
use Rattle.std.proofs.lemmas.Int.{ints}
use Rattle.std.proofs.lemmas.Bool.{eqb-true, leb-true, leb-false, le-leb, lt-leb}
use Rattle.std.proofs.lemmas.Option.{slice_get_within}
use Rattle.drm_schedule.specs.declared.plan.Plan.{Plan}
use Rattle.drm_schedule.specs.Valid.{IsSchedule}
use Rattle.dcp_collect.specs.CollectorState.{reached}
use Rattle.dcp_collect.specs.Numbers.{end_of}
use Rattle.law_collect.specs.Delivery.{number, is_number, is_at_least, got, newest_of}
use Rattle.law_collect.proofs.Got.{reached_is}
use Rattle.drm_timeline.specs.Numbers.{frame_count}
use Rattle.std.specs.List.{AllZip}
use Rattle.law_delivery.specs.Sent.{Arrival, OfSchedule, Foreign, IsArrival, pairs_in, IsDeliveryOf, IsInTime}
use Rattle.law_delivery.specs.Laws.{AllFrames}
use Rattle.law_delivery.proofs.InTime.{given_in_time}
use Rattle.law_delivery.proofs.Needed.{some_got}

pub number_ahead : (z : ℤ) (q : ℕ) → is_number z q ≡ true → is_at_least z q ≡ true
number_ahead (pos n) q is = let same : n ≡ q = eqb-true n q is in le-leb q n (omega (arith, same))
number_ahead (negsuc n) q is = is

one_of_both : (a b : Bool) → b ≡ true → (a || b) ≡ true
one_of_both true b is = refl
one_of_both false b is = is

-- what is got has come
got_is_among : (window : ℕ) (first_frame : ℤ) (pairs : List (ℕ × ℕ)) (q i : ℕ) → got window first_frame pairs q i ≡ true → list_any (λ pair. is_at_least (number first_frame pair) q) pairs ≡ true
got_is_among window first_frame [] q i is = is
got_is_among window first_frame (pair ∷ pairs) q i is =
    by (is_at_least (number first_frame pair) (q + window)) (is_number (number first_frame pair) q) (eqb pair.1 i) (got window first_frame pairs q i)
    (number_ahead (number first_frame pair) q) (got_is_among window first_frame pairs q i) is
  where
    by : (late same index rest : Bool) → (same ≡ true → is_at_least (number first_frame pair) q ≡ true)
        → (rest ≡ true → list_any (λ p. is_at_least (number first_frame p) q) pairs ≡ true) → cond late false ((same && index) || rest) ≡ true
        → (is_at_least (number first_frame pair) q || list_any (λ p. is_at_least (number first_frame p) q) pairs) ≡ true
    by true same index rest here later got_it = absurd (let e : false ≡ true = got_it in cc)
    by false true true rest here later got_it = ap (λ (b : Bool). b || list_any (λ p. is_at_least (number first_frame p) q) pairs) (here refl)
    by false true false rest here later got_it = ap (λ (b : Bool). b || list_any (λ p. is_at_least (number first_frame p) q) pairs) (here refl)
    by false false index rest here later got_it = one_of_both (is_at_least (number first_frame pair) q) (list_any (λ p. is_at_least (number first_frame p) q) pairs) (later got_it)

from_first : (pair : ℕ × ℕ) → number (pos 0) pair ≡ pos pair.0
from_first pair = omega (arith, ints)

-- no pair is beyond the schedule
none_beyond : (plan : Plan) (arrivals : List Arrival) (datagrams : List (List ℕ)) → AllZip (IsArrival plan) arrivals datagrams
    → list_any (λ pair. is_at_least (number (pos 0) pair) (frame_count plan)) (pairs_in arrivals) ≡ false
none_beyond plan [] datagrams are = refl
none_beyond plan (arrival ∷ arrivals) [] are = absurd are
none_beyond plan (Foreign cause ∷ arrivals) (datagram ∷ datagrams) are = none_beyond plan arrivals datagrams are.1
none_beyond plan (OfSchedule pair ∷ arrivals) (datagram ∷ datagrams) are =
    let within : pair.0 < frame_count plan = are.0.within in
    let here : is_at_least (number (pos 0) pair) (frame_count plan) ≡ false =
    ap (λ (z : ℤ). is_at_least z (frame_count plan)) (from_first pair) ∙ lt-leb (frame_count plan) pair.0 within in
    ap (λ (b : Bool). b || list_any (λ (p : ℕ × ℕ). is_at_least (number (pos 0) p) (frame_count plan)) (pairs_in arrivals)) here ∙ none_beyond plan arrivals datagrams are.1

ends_there : (newest : Option ℕ) (n : ℕ) → 1 ≤ n → reached newest (n - 1) ≡ true → reached newest n ≡ false → end_of None newest ≡ n
ends_there None n some last none = absurd (let e : false ≡ true = last in cc)
ends_there (Some m) n some last none = let low : n - 1 ≤ m = leb-true (n - 1) m last in let high : m < n = leb-false n m none in omega (arith, low, high, some)

-- whether the number of items is told or not, they are as many as the schedule's frames
all_many : (plan : Plan) (window reach : ℕ) (frame_limit : Option ℕ) (arrivals : List Arrival) (datagrams : List (List ℕ)) (first : Option ℕ)
    → IsSchedule plan → (frame_limit ≡ None) ⊎ (frame_limit ≡ Some (frame_count plan)) → IsDeliveryOf plan reach first (pos 0) arrivals datagrams
    → ((q : ℕ) → q < frame_count plan → IsInTime plan window (pos 0) (pairs_in arrivals) q) → end_of frame_limit (newest_of (pos 0) None (pairs_in arrivals)) ≡ frame_count plan
all_many plan window reach frame_limit arrivals datagrams first is (inr known) followed in_time = ap (λ (o : Option ℕ). end_of o (newest_of (pos 0) None (pairs_in arrivals))) known
all_many plan window reach frame_limit arrivals datagrams first is (inl unknown) followed in_time =
    let n : ℕ = frame_count plan in
    let some : 1 ≤ frame_count plan = omega (arith, is.in_lines.some_frames) in
    let last = in_time (n - 1) (omega (arith, some)) in
    let one = some_got plan last.t (got window (pos 0) (pairs_in arrivals) (n - 1)) is last.enough in
    let is_reached : reached (newest_of (pos 0) None (pairs_in arrivals)) (n - 1) ≡ true = reached_is (pos 0) None (pairs_in arrivals) (n - 1) ∙ got_is_among window (pos 0) (pairs_in arrivals) (n - 1) one.0 one.1 in
    let none : reached (newest_of (pos 0) None (pairs_in arrivals)) n ≡ false = reached_is (pos 0) None (pairs_in arrivals) n ∙ none_beyond plan arrivals datagrams followed.arrive in
    ap (λ (o : Option ℕ). end_of o (newest_of (pos 0) None (pairs_in arrivals))) unknown ∙ ends_there (newest_of (pos 0) None (pairs_in arrivals)) n some is_reached none

pub all_frames : AllFrames
all_frames plan window reach frame_limit arrivals datagrams first steps is known followed in_time given =
    let many : length steps ≡ frame_count plan = given.many ∙ all_many plan window reach frame_limit arrivals datagrams first is known followed in_time in (
      many,
      λ q step at.
          let within : q < length steps = slice_get_within steps q step at in
          given_in_time plan window (pos 0) frame_limit (pairs_in arrivals) steps q step is given (in_time q (omega (arith, within, many))) at,
    )
