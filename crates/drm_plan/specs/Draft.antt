-- What a draft says of its files, and what becomes of it.
use Rattle.std.specs.Prelude.{ℕ, List, [], Option, Some, None, Result, Ok, Err}
use Rattle.drm_schedule.specs.declared.invalid.Invalid.{Invalid}
use Rattle.drm_schedule.specs.declared.invalid.Place.{Place}
use Rattle.drm_schedule.specs.declared.invalid.Place.TheVariants as places
use Rattle.drm_schedule.specs.declared.plan.Plan.{Plan}
use Rattle.drm_schedule.specs.Valid.{first_invalid}
use Rattle.plan_rules.specs.declared.fault.PlanFault.{PlanFault}
use Rattle.plan_rules.specs.declared.fault.PlanFault.TheVariants as plan
use Rattle.drm_plan.specs.declared.files.FileRef.{FileRef}
use Rattle.drm_plan.specs.declared.places.LineNumbers.{LineNumbers}
use Rattle.drm_plan.specs.Files.{name_of, with_file}
use Rattle.drm_plan.specs.Lookup.{at}
use Rattle.drm_plan.specs.Projection.{DraftContents}

abbrev pub or_zero : Option ℕ → ℕ
or_zero None = 0
or_zero (Some n) = n

-- the line of this place of a configuration
abbrev pub line_in : LineNumbers → Place → ℕ
line_in lines places.Config = lines.config
line_in lines places.Occupancy = lines.occupancy
line_in lines places.Msc = lines.msc
line_in lines (places.Block j) = or_zero (at j lines.blocks)
line_in lines (places.Stream j) = or_zero (at j lines.streams)

abbrev pub line_there : Place → Option LineNumbers → ℕ
line_there place None = 0
line_there place (Some lines) = line_in lines place

-- the line of this place of the configuration with this number, 0 where there is none
abbrev pub line_of_place : List LineNumbers → ℕ → Place → ℕ
line_of_place all config place = line_there place (at config all)

abbrev pub name_of_file : Plan → Option FileRef → List ℕ
name_of_file plan None = []
name_of_file plan (Some file) = name_of file plan

-- the name of the file with this number
abbrev pub name_at : DraftContents → ℕ → List ℕ
name_at d k = name_of_file d.plan (at k d.files)

abbrev pub line_of_file : List LineNumbers → Option FileRef → ℕ
line_of_file all None = 0
line_of_file all (Some file) = line_of_place all file.config (places.Stream file.stream)

-- the line of the file with this number
abbrev pub line_at : DraftContents → ℕ → ℕ
line_at d k = line_of_file d.places (at k d.files)

abbrev pub with_bytes : Option FileRef → List ℕ → Plan → Plan
with_bytes None bytes plan = plan
with_bytes (Some file) bytes plan = with_file file bytes plan

-- the draft with the bytes of this file
abbrev pub attached : DraftContents → ℕ → List ℕ → DraftContents
attached d k bytes = record d { plan = with_bytes (at k d.files) bytes d.plan }

abbrev pub valid_unless : Option Invalid → DraftContents → Result Plan PlanFault
valid_unless None d = Ok d.plan
valid_unless (Some fault) d = Err (plan.Line (line_of_place d.places fault.config fault.place) fault.reason)

-- the schedule of a draft, or its first fault with its line
abbrev pub valid_of : DraftContents → Result Plan PlanFault
valid_of d = valid_unless (first_invalid d.plan) d
