-- Which frames of a schedule are sent: those of some super frames, one after another.
use Rattle.std.specs.Prelude.{ℕ, ◌-◌, ◌*◌, min, Option, None, Some}
use Rattle.drm_schedule.specs.declared.plan.Plan.{Plan}
use Rattle.drm_timeline.specs.Numbers.{frame_count}
use Rattle.drm_server.specs.declared.stretch.Stretch.{Stretch}

-- all of a schedule
abbrev pub whole_schedule : Stretch
whole_schedule = record { from = 0; until = None }

-- the number of the first frame
abbrev pub first_in : Stretch → ℕ
first_in stretch = 3 * stretch.from

-- up to which of so many frames: of all, or of those before a super frame
abbrev pub end_before : Option ℕ → ℕ → ℕ
end_before None count = count
end_before (Some until) count = min count (3 * until)

-- how many of a schedule's frames are sent: none where the end isn't behind the beginning
unfoldable pub frames_in : Stretch → Plan → ℕ
frames_in stretch plan = end_before stretch.until (frame_count plan) - first_in stretch
