-- Schedules so short that no number is too far from another one.
use Rattle.std.proofs.Common.{ℕ, ◌≡◌, ◌+◌, ◌<◌, ◌≤◌, List, [], ◌∷◌, Option, None, Some, IfSome, ap, subst, sym, arith}
use Rattle.std.specs.Prelude.{pos, ◌≤ℤ◌, unwrap_or}
use Rattle.std.specs.List.{AllZip}
use Rattle.std.proofs.lemmas.Int.{ints}
use Rattle.dcp_collect.specs.Numbers.{newer}
use Rattle.law_collect.specs.Delivery.{number, newer_number, IsWithinSpan}
use Rattle.drm_schedule.specs.declared.plan.Plan.{Plan}
use Rattle.drm_timeline.specs.Numbers.{frame_count}
use Rattle.law_delivery.specs.Sent.{Arrival, OfSchedule, Foreign, IsArrival, pairs_in}
use Rattle.law_paths.specs.Laws.{FollowedInAnyOrder}

from_first : (pair : ℕ × ℕ) → number (pos 0) pair ≡ pos pair.0
from_first pair = omega (arith, ints)

newer_below : (newest : Option ℕ) (n limit : ℕ) → unwrap_or newest 0 < limit → n < limit → unwrap_or (newer newest n) 0 < limit
newer_below None n limit low below = below
newer_below (Some m) n limit low below = omega (arith, low, below)

-- a number up to the reach is no more than that above any other
near_newest : (newest : Option ℕ) (reach n : ℕ) → n ≤ reach → IfSome newest (λ m. pos n ≤ℤ pos (m + reach))
near_newest None reach n few = tt
near_newest (Some m) reach n few = omega (arith, ints, few)

within_span : (plan : Plan) (reach : ℕ) (newest : Option ℕ) (arrivals : List Arrival) (received : List (List ℕ)) → frame_count plan ≤ 32768 → frame_count plan ≤ reach + 1 → unwrap_or newest 0 < 32768
    → AllZip (IsArrival plan) arrivals received → IsWithinSpan reach (pos 0) newest (pairs_in arrivals)
within_span plan reach newest [] received short near low are = tt
within_span plan reach newest (a ∷ arrivals) [] short near low are = absurd are
within_span plan reach newest (Foreign cause ∷ arrivals) (datagram ∷ received) short near low are = within_span plan reach newest arrivals received short near low are.1
within_span plan reach newest (OfSchedule pair ∷ arrivals) (datagram ∷ received) short near low are =
    let below : pair.0 < 32768 = omega (arith, short, are.0.within) in
    let here : newer_number newest (number (pos 0) pair) ≡ newer newest pair.0 = ap (newer_number newest) (from_first pair) in (
      omega (arith, ints, below),
      omega (arith, ints, low),
      subst (λ z. IfSome newest (λ m. z ≤ℤ pos (m + reach))) (sym (from_first pair)) (near_newest newest reach pair.0 (omega (arith, near, are.0.within))),
      within_span plan reach (newer_number newest (number (pos 0) pair)) arrivals received short near (subst (λ o. unwrap_or o 0 < 32768) (sym here) (newer_below newest pair.0 32768 low below)) are.1,
    )

pub followed_in_any_order : FollowedInAnyOrder
followed_in_any_order plan reach arrivals received short near are far = record {
  arrive = are;
  is_first = (pos 0, omega (arith, ints));
  within_span = within_span plan reach None arrivals received short near (omega arith) are;
  far = far;
}
