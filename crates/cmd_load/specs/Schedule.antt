-- The schedule of a text on a shelf, with its files.
use Rattle.std.specs.Prelude.{ℕ, zero, suc, ◌+◌, List, length, Result, Ok, Err}
use Rattle.drm_schedule.specs.declared.plan.Plan.{Plan}
use Rattle.plan_rules.specs.declared.fault.PlanFault.{PlanFault}
use Rattle.plan_rules.specs.declared.fault.PlanFault.TheVariants as plan
use Rattle.plan_rules.specs.Rules.{ScheduleTextFault}
use Rattle.drm_plan.specs.Projection.{DraftContents}
use Rattle.drm_plan.specs.Text.{draft_of}
use Rattle.plan_writer.specs.Canonical.{canonical}
use Rattle.drm_plan.specs.Draft.{name_at, line_at, attached, valid_of}
use Rattle.cmd_load.specs.declared.loading.ScheduleFault.{ScheduleFault}
use Rattle.cmd_load.specs.declared.loading.ScheduleFault.TheVariants.{NoMemory, Line}
use Rattle.cmd_load.specs.Loading.{ShelfReading, given, ◌>>=◌, load_for}

-- the most bytes of a schedule's text, and of a file that it names
abbrev pub longest_text : ℕ
longest_text = 262144

abbrev pub longest_file : ℕ
longest_file = 4194304

-- what a text gives, or the line that is wrong
abbrev pub by_lines : Result DraftContents ScheduleTextFault → Result DraftContents ScheduleFault
by_lines (Ok draft) = Ok draft
by_lines (Err fault) = Err (Line fault.line fault.reason)

-- the schedule, or the line that makes it invalid
abbrev pub by_validity : Result Plan PlanFault → Result Plan ScheduleFault
by_validity (Ok schedule) = Ok schedule
by_validity (Err (plan.Line line reason)) = Err (Line line reason)
by_validity (Err plan.NoMemory) = Err NoMemory

-- so many files are loaded in the order of their lines, the first of which has number k
abbrev pub with_files : ℕ → ℕ → DraftContents → ShelfReading DraftContents
with_files zero k draft = given (Ok draft)
with_files (suc n) k draft = do
  bytes ← load_for (line_at draft k) (name_at draft k) longest_file
  with_files n (k + 1) (attached draft k bytes)

-- The schedule whose text has this name: the text and its lines, then the files that they name, then whether it is valid.
abbrev pub schedule_named : List ℕ → ShelfReading Plan
schedule_named name = do
  text ← load_for 0 name longest_text
  draft ← given (by_lines (draft_of text))
  whole ← with_files (length draft.files) 0 draft
  given (by_validity (valid_of whole))

-- the canonical text of the schedule of this name
abbrev pub checked : List ℕ → ShelfReading (List ℕ)
checked name = do
  schedule ← schedule_named name
  given (Ok (canonical schedule))
