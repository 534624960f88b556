-- Whether a text that `check` prints is checked again as itself.
use Rattle.std.specs.Prelude.{ℕ, ◌≡◌, ◌≤◌, List, length, Contains, Some, Ok}
use Rattle.drm_links.specs.Shelf.{Files, file_at}
use Rattle.drm_schedule.specs.declared.plan.Plan.{Plan}
use Rattle.drm_schedule.specs.Valid.{IsSchedule}
use Rattle.plan_writer.specs.Canonical.{canonical}
use Rattle.drm_plan.specs.Text.{IsText}
use Rattle.law_plan.specs.Texts.{EachFile}
use Rattle.cmd_load.specs.Schedule.{longest_text, longest_file, schedule_named, checked}

-- each file of the schedule is on the shelf, under its name, and isn't too long to be loaded
abbrev pub HasFiles : Files → Plan → Type 0
HasFiles contents schedule = EachFile (λ name bytes. (file_at contents name ≡ Some bytes) × (length bytes ≤ longest_file)) schedule

-- each file of the first shelf is on the second
abbrev pub HasAll : Files → Files → Type 0
HasAll first second = (name bytes : List ℕ) → file_at first name ≡ Some bytes → file_at second name ≡ Some bytes

-- no load from here on is to fail
abbrev pub NoLoadFails : Files → Type 0
NoLoadFails contents = (load : ℕ) → contents.loads ≤ load → Contains contents.failing load → ⊥

-- the file of this name is a text of the schedule
pub record HasText (contents : Files) (name : List ℕ) (schedule : Plan) : Type 0 where
  pub text : List ℕ
  pub there : file_at contents name ≡ Some text
  pub is : IsText schedule text

-- What a shelf gives as a schedule is one, has the bytes of the shelf's files, and the named file is a text of it.
abbrev pub SchedulesAreOnTheShelf : Type 0
SchedulesAreOnTheShelf =
    (name : List ℕ) (contents : Files) (schedule : Plan) → (schedule_named name contents).outcome ≡ Ok schedule
    → IsSchedule schedule × HasFiles contents schedule × HasText contents name schedule

-- A text of a schedule comes to it, where the files are there.
abbrev pub TextsComeToTheirSchedules : Type 0
TextsComeToTheirSchedules =
    (schedule : Plan) (name : List ℕ) (contents : Files) → IsSchedule schedule → HasFiles contents schedule → HasText contents name schedule → NoLoadFails contents
    → (schedule_named name contents).outcome ≡ Ok schedule

-- The canonical text of a schedule is checked as itself, where it isn't too long and the files are there.
abbrev pub CanonicalIsChecked : Type 0
CanonicalIsChecked =
    (schedule : Plan) (name : List ℕ) (contents : Files) → IsSchedule schedule → length (canonical schedule) ≤ longest_text
    → file_at contents name ≡ Some (canonical schedule) → HasFiles contents schedule → NoLoadFails contents
    → (checked name contents).outcome ≡ Ok (canonical schedule)

-- What came of one text comes of itself, where it isn't too long and stands on a shelf that has all that the first had.
abbrev pub PrintedIsChecked : Type 0
PrintedIsChecked =
    (name again text : List ℕ) (first second : Files) → (checked name first).outcome ≡ Ok text → length text ≤ longest_text
    → file_at second again ≡ Some text → HasAll first second → NoLoadFails second
    → (checked again second).outcome ≡ Ok text
