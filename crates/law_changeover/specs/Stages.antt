-- Schedules of which one takes over from another.
use Rattle.std.specs.Prelude.{ℕ, ◌*◌, ◌<◌, ◌≤◌, ◌⊎◌, List, [], ◌∷◌}
use Rattle.drm_schedule.specs.declared.plan.Plan.{Plan}
use Rattle.drm_compare.specs.Agreement.{AgreeBelow}
use Rattle.law_delivery.specs.Sent.{Arrival, OfSchedule, Foreign, IsArrival}

-- what arrives is of a frame below super frame n, or foreign
abbrev pub IsBelow : ℕ → Arrival → Type 0
IsBelow n (OfSchedule pair) = pair.0 < 3 * n
IsBelow n (Foreign cause) = Unit {0}

-- A schedule that was on the air, and the super frame at which the next one took over.
pub record Stage : Type 0 where
  pub plan : Plan
  pub until : ℕ

-- the schedule that takes over next: the first of these, or the last one
abbrev pub next_of : List Stage → Plan → Plan
next_of [] last = last
next_of (stage ∷ stages) last = stage.plan

-- the next changeover is at super frame n or later
abbrev pub IsNext : ℕ → List Stage → Type 0
IsNext n [] = Unit {0}
IsNext n (stage ∷ stages) = n ≤ stage.until

-- Each schedule takes over from the one before, as far as they agree, and none earlier than the one before did.
abbrev pub TakeOver : List Stage → Plan → Type 0
TakeOver [] last = Unit {0}
TakeOver (stage ∷ stages) last = AgreeBelow stage.plan (next_of stages last) stage.until × IsNext stage.until stages × TakeOver stages last

-- It arrives of one of these, below the super frame at which the next one took over, or of the last.
abbrev pub ArrivesOfOne : List Stage → Plan → Arrival → List ℕ → Type 0
ArrivesOfOne [] last arrival datagram = IsArrival last arrival datagram
ArrivesOfOne (stage ∷ stages) last arrival datagram =
    (IsBelow stage.until arrival × IsArrival stage.plan arrival datagram) ⊎ ArrivesOfOne stages last arrival datagram
