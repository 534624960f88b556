-- The laws of changeovers.
use Rattle.std.specs.Prelude.{ℕ, ℤ, ◌≤◌, List, ◌++◌, All, Option, None, Some}
use Rattle.std.specs.List.{AllZip}
use Rattle.drm_schedule.specs.declared.plan.Plan.{Plan}
use Rattle.drm_server.specs.Datagrams.{AreDatagrams}
use Rattle.drm_compare.specs.Agreement.{AgreeBelow, IsAgreement}
use Rattle.law_collect.specs.Delivery.{IsWithinSpan, IsFirstPacket}
use Rattle.law_delivery.specs.Sent.{Arrival, IsArrival, pairs_in, AreFar, IsDeliveryOf}
use Rattle.law_delivery.specs.Ways.{IsMixture}
use Rattle.law_changeover.specs.Stages.{IsBelow, Stage, TakeOver, ArrivesOfOne}

-- what is said of two schedules up to a super frame holds up to each earlier one
abbrev pub HoldsBelow : Type 0
HoldsBelow = (plan other : Plan) (n m : ℕ) → IsAgreement plan other n → m ≤ n → AgreeBelow plan other m

-- What is sent of the one from super frame f on and before n, and behind it what is sent of the other from n on, is what is sent of the other from f on.
abbrev pub SentAsOne : Type 0
SentAsOne =
    (plan other : Plan) (f n : ℕ) (before behind : List (List ℕ)) → AgreeBelow plan other n → f ≤ n
    → AreDatagrams plan (record { from = f; until = Some n }) before → AreDatagrams other (record { from = n; until = None }) behind
    → AreDatagrams other (record { from = f; until = None }) (before ++ behind)

-- What arrives of the one's super frames below n is the same of the other; and mixed in any way with what arrives of the other it is a
-- delivery of the other. Any foreign datagrams may be among both.
abbrev pub OneDelivery : Type 0
OneDelivery =
    (plan other : Plan) (n : ℕ) (arrivals others : List Arrival) (one two both : List (List ℕ)) → AgreeBelow plan other n
    → AllZip (IsArrival plan) arrivals one → All (IsBelow n) arrivals → AllZip (IsArrival other) others two → IsMixture one two both
    → AllZip (IsArrival other) arrivals one
    × ((mixed : List Arrival) × AllZip (IsArrival other) mixed both × IsMixture arrivals others mixed)

-- All that arrives of schedules, each of which takes over from the one before, is a delivery of the last, with the same pairs: one that a
-- receiver can follow where it can follow these.
abbrev pub ManyAreOne : Type 0
ManyAreOne =
    (stages : List Stage) (last : Plan) (reach : ℕ) (first : Option ℕ) (first_frame : ℤ) (arrivals : List Arrival) (datagrams : List (List ℕ))
    → TakeOver stages last → AllZip (ArrivesOfOne stages last) arrivals datagrams
    → IsFirstPacket last.seq first (pairs_in arrivals) first_frame → IsWithinSpan reach first_frame None (pairs_in arrivals)
    → AreFar reach last.seq first_frame None arrivals datagrams
    → IsDeliveryOf last reach first first_frame arrivals datagrams
