-- The command `check`: a schedule becomes its canonical text.
use Rattle.std.specs.Prelude.{ℕ, ◌≡◌, List, Result}
use Rattle.drm_links.specs.Known.{Known}
use Rattle.drm_links.specs.Shelf.{Files}
use Rattle.drm_links.specs.Sink.{Output, IsPrefix}
use Rattle.drm_schedule.specs.declared.plan.Plan.{Plan}
use Rattle.drm_schedule.specs.Valid.{IsSchedule}
use Rattle.plan_writer.specs.Canonical.{canonical}
use Rattle.cmd_load.specs.Schedule.{checked}
use Rattle.cmd_serve.specs.ScheduleRun.{ScheduleRun}
use Rattle.cmd_faults.specs.declared.fault.Fault.{Fault}

-- the canonical text of a valid schedule
abbrev pub IsCanonical : List ℕ → Type 0
IsCanonical text = (schedule : Plan) × IsSchedule schedule × (text ≡ canonical schedule)

-- A run of `check`: it writes the text that came.
abbrev pub CheckRun : {S O : Type 0} → List ℕ → Result (Unit {0}) Fault → (S → Known Files) → S → S → (O → Known Output) → O → O → Type 0
CheckRun name ending shelf_known shelf shelf' out_known out out' =
    ScheduleRun (checked name) IsCanonical (λ text written. written ≡ text) IsPrefix ending shelf_known shelf shelf' out_known out out'
