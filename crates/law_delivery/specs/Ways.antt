-- What comes by two ways, or of a server that sends a part of a schedule, is a delivery of it.
use Rattle.std.specs.Prelude.{ℕ, ◌≡◌, ◌+◌, ◌<◌, ◌≤◌, ◌⊎◌, List, [], ◌∷◌, All, Contains}
use Rattle.std.specs.List.{AllZip}
use Rattle.drm_schedule.specs.declared.plan.Plan.{Plan}
use Rattle.drm_server.specs.declared.stretch.Stretch.{Stretch}
use Rattle.drm_server.specs.Stretch.{first_in, frames_in}
use Rattle.drm_server.specs.Datagrams.{AreDatagrams}
use Rattle.law_delivery.specs.Sent.{Arrival, OfSchedule, Foreign, IsArrival}

-- both is one and other mixed in some way, each in its own order
abbrev pub IsMixture : {A : Type 0} → List A → List A → List A → Type 0
IsMixture {A} one other [] = (one ≡ []) × (other ≡ [])
IsMixture {A} one other (x ∷ both) =
    ((rest : List A) × (one ≡ x ∷ rest) × IsMixture rest other both) ⊎ ((rest : List A) × (other ≡ x ∷ rest) × IsMixture one rest both)

-- Two deliveries of a schedule, with any foreign datagrams in them, mixed in any way, are a delivery of it.
abbrev pub TwoWays : Type 0
TwoWays =
    (plan : Plan) (arrivals others : List Arrival) (one other both : List (List ℕ))
    → AllZip (IsArrival plan) arrivals one → AllZip (IsArrival plan) others other → IsMixture one other both
    → (mixed : List Arrival) × AllZip (IsArrival plan) mixed both × IsMixture arrivals others mixed

-- the datagram of one of the frames that are sent of a schedule
abbrev pub IsWithin : Stretch → Plan → Arrival → Type 0
IsWithin stretch plan (OfSchedule pair) = (first_in stretch ≤ pair.0) × (pair.0 < first_in stretch + frames_in stretch plan)
IsWithin stretch plan (Foreign cause) = ⊥

-- Whatever comes of what is sent of a schedule, of whichever of its frames, some of it never, some twice, in any order, is a delivery of the
-- schedule: of these frames, under their own numbers.
abbrev pub AnyStretch : Type 0
AnyStretch =
    (plan : Plan) (stretch : Stretch) (sent received : List (List ℕ)) → AreDatagrams plan stretch sent → All (Contains sent) received
    → (arrivals : List Arrival) × AllZip (IsArrival plan) arrivals received × All (IsWithin stretch plan) arrivals
