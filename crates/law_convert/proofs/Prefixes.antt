-- A front of a delivery that a receiver can follow is one.
use Rattle.std.proofs.Common.{ℕ, zero, suc, List, [], ◌∷◌, ◌++◌, length, take, Option, None, Some, refl}
use Rattle.std.specs.Prelude.{ℤ, pos}
use Rattle.law_collect.specs.Delivery.{number, newer_number, IsWithinSpan, IsFirstPacket}
use Rattle.drm_schedule.specs.declared.plan.Plan.{Plan}
use Rattle.law_delivery.specs.Sent.{Arrival, OfSchedule, Foreign, pairs_in, IsDeliveryOf}
use Rattle.law_delivery.proofs.Following.{far_front}
use Rattle.law_delivery.proofs.ForeignDatagrams.{front_arrives}

front_spans : (reach : ℕ) (arrivals : List Arrival) (n : ℕ) (first_frame : ℤ) (newest : Option ℕ) → IsWithinSpan reach first_frame newest (pairs_in arrivals) → IsWithinSpan reach first_frame newest (pairs_in (take n arrivals))
front_spans reach [] zero first_frame newest span = tt
front_spans reach [] (suc n) first_frame newest span = tt
front_spans reach (arrival ∷ arrivals) zero first_frame newest span = tt
front_spans reach (OfSchedule pair ∷ arrivals) (suc n) first_frame newest (low, high, near, rest) = (low, high, near, front_spans reach arrivals n first_frame (newer_number newest (number first_frame pair)) rest)
front_spans reach (Foreign cause ∷ arrivals) (suc n) first_frame newest span = front_spans reach arrivals n first_frame newest span

none_is_first : (seq : ℕ) (arrivals : List Arrival) (n : ℕ) → IsFirstPacket seq None (pairs_in arrivals) (pos 0) → IsFirstPacket seq None (pairs_in (take n arrivals)) (pos 0)
none_is_first seq [] zero is_first = refl
none_is_first seq [] (suc n) is_first = refl
none_is_first seq (arrival ∷ arrivals) zero is_first = refl
none_is_first seq (OfSchedule pair ∷ arrivals) (suc n) is_first = is_first
none_is_first seq (Foreign cause ∷ arrivals) (suc n) is_first = none_is_first seq arrivals n is_first

front_is_first : (seq : ℕ) (first : Option ℕ) (arrivals : List Arrival) (n : ℕ) → IsFirstPacket seq first (pairs_in arrivals) (pos 0) → IsFirstPacket seq first (pairs_in (take n arrivals)) (pos 0)
front_is_first seq None arrivals n is_first = none_is_first seq arrivals n is_first
front_is_first seq (Some f) arrivals n is_first = is_first

-- where numbers count from the schedule's first frame
pub front_followed : (plan : Plan) (reach : ℕ) (first : Option ℕ) (arrivals : List Arrival) (datagrams later : List (List ℕ)) → IsDeliveryOf plan reach first (pos 0) arrivals (datagrams ++ later)
    → IsDeliveryOf plan reach first (pos 0) (take (length datagrams) arrivals) datagrams
front_followed plan reach first arrivals datagrams later followed = record {
  arrive = (front_arrives plan arrivals datagrams later followed.arrive).0;
  is_first = front_is_first plan.seq first arrivals (length datagrams) followed.is_first;
  within_span = front_spans reach arrivals (length datagrams) (pos 0) None followed.within_span;
  far = far_front reach plan.seq (pos 0) None arrivals datagrams later followed.far;
}
