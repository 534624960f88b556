-- Deliveries over one changeover, and over many.
use Rattle.std.proofs.Common.{◌≤◌, ℕ, suc, inl, inr, List, [], ◌∷◌, All, arith}
use Rattle.std.specs.List.{AllZip}
use Rattle.drm_schedule.specs.declared.plan.Plan.{Plan}
use Rattle.drm_compare.specs.Agreement.{AgreeBelow}
use Rattle.law_delivery.specs.Sent.{Arrival, OfSchedule, Foreign, IsArrival}
use Rattle.law_delivery.specs.Ways.{TwoWays}
use Rattle.law_changeover.specs.Stages.{IsBelow, Stage, next_of, IsNext, TakeOver, ArrivesOfOne}
use Rattle.law_changeover.specs.Laws.{OneDelivery, ManyAreOne}
use Rattle.law_changeover.proofs.SameFrames.{moved_datagram}

-- what arrives of the one below a super frame arrives of the other
as_other : (plan other : Plan) (n : ℕ) (arrival : Arrival) (datagram : List ℕ) → AgreeBelow plan other n → IsBelow n arrival → IsArrival plan arrival datagram → IsArrival other arrival datagram
as_other plan other n (OfSchedule pair) datagram agree below sent =
    let within = agree.within_other in
    record { within = omega (arith, below, within); is = moved_datagram plan other pair.0 pair.1 datagram (agree.same pair.0 below) sent.is }
as_other plan other n (Foreign cause) datagram agree below is = is

all_rest : {X : Type 0} (P : X → Type 0) (x : X) (xs : List X) → All P (x ∷ xs) → All P xs
all_rest P x xs all k d below = all (suc k) d (omega (arith, below))

all_as_other : (plan other : Plan) (n : ℕ) (arrivals : List Arrival) (datagrams : List (List ℕ)) → AgreeBelow plan other n → AllZip (IsArrival plan) arrivals datagrams → All (IsBelow n) arrivals
    → AllZip (IsArrival other) arrivals datagrams
all_as_other plan other n [] [] agree each below = tt
all_as_other plan other n [] (datagram ∷ datagrams) agree each below = absurd each
all_as_other plan other n (arrival ∷ arrivals) [] agree each below = absurd each
all_as_other plan other n (arrival ∷ arrivals) (datagram ∷ datagrams) agree (first, rest) below = (
  as_other plan other n arrival datagram agree (below 0 arrival (omega arith)) first,
  all_as_other plan other n arrivals datagrams agree rest (all_rest (IsBelow n) arrival arrivals below),
)

pub one_delivery : TwoWays → OneDelivery
one_delivery two_ways plan other n arrivals others one two both agree each below all mixture =
    let moved = all_as_other plan other n arrivals one agree each below in
    (moved, two_ways other arrivals others one two both moved all mixture)

-- ---- many

is_below_later : (n m : ℕ) (arrival : Arrival) → n ≤ m → IsBelow n arrival → IsBelow m arrival
is_below_later n m (OfSchedule pair) later below = omega (arith, below, later)
is_below_later n m (Foreign cause) later below = tt

-- what arrives of the next one below a changeover arrives of the last
of_last : (stages : List Stage) (last : Plan) (n : ℕ) (arrival : Arrival) (datagram : List ℕ) → TakeOver stages last → IsNext n stages → IsBelow n arrival
    → IsArrival (next_of stages last) arrival datagram → IsArrival last arrival datagram
of_last [] last n arrival datagram take next below is = is
of_last (stage ∷ stages) last n arrival datagram (agree, later, take) next below is =
    let here : IsBelow stage.until arrival = is_below_later n stage.until arrival next below in
    of_last stages last stage.until arrival datagram take later here (as_other stage.plan (next_of stages last) stage.until arrival datagram agree here is)

any_of_last : (stages : List Stage) (last : Plan) (arrival : Arrival) (datagram : List ℕ) → TakeOver stages last → ArrivesOfOne stages last arrival datagram → IsArrival last arrival datagram
any_of_last [] last arrival datagram take is = is
any_of_last (stage ∷ stages) last arrival datagram (agree, later, take) (inl (below, is)) =
    of_last stages last stage.until arrival datagram take later below (as_other stage.plan (next_of stages last) stage.until arrival datagram agree below is)
any_of_last (stage ∷ stages) last arrival datagram (agree, later, take) (inr is) = any_of_last stages last arrival datagram take is

all_of_last : (stages : List Stage) (last : Plan) (arrivals : List Arrival) (datagrams : List (List ℕ)) → TakeOver stages last → AllZip (ArrivesOfOne stages last) arrivals datagrams
    → AllZip (IsArrival last) arrivals datagrams
all_of_last stages last [] [] take each = tt
all_of_last stages last [] (datagram ∷ datagrams) take each = absurd each
all_of_last stages last (arrival ∷ arrivals) [] take each = absurd each
all_of_last stages last (arrival ∷ arrivals) (datagram ∷ datagrams) take (first, rest) =
    (any_of_last stages last arrival datagram take first, all_of_last stages last arrivals datagrams take rest)

pub many_are_one : ManyAreOne
many_are_one stages last reach first first_frame arrivals datagrams take each is_first within_span far =
    record { arrive = all_of_last stages last arrivals datagrams take each; is_first = is_first; within_span = within_span; far = far }
