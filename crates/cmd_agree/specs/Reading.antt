-- Two schedules from a shelf.
use Rattle.std.specs.Prelude.{ℕ, List, Ok}
use Rattle.drm_schedule.specs.Valid.{IsSchedule}
use Rattle.cmd_load.specs.Loading.{ShelfReading, given, ◌>>=◌}
use Rattle.cmd_load.specs.Schedule.{schedule_named}
use Rattle.cmd_agree.specs.declared.pair.SchedulePair.{SchedulePair}

-- The schedules of two names, each as `check` reads it: the first one with its files, and then the second one, where the first wasn't
-- refused.
abbrev pub both_named : List ℕ → List ℕ → ShelfReading SchedulePair
both_named name other = do
  first ← schedule_named name
  second ← schedule_named other
  given (Ok (record { first = first; second = second }))

-- both are valid
abbrev pub AreSchedules : SchedulePair → Type 0
AreSchedules pair = IsSchedule pair.first × IsSchedule pair.second
