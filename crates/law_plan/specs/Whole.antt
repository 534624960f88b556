-- A text with its files.
use Rattle.std.specs.Prelude.{ℕ, ◌≡◌, ◌+◌, ◌≤◌, ◌↔◌, List, [], ◌∷◌, length, Ok}
use Rattle.std.specs.List.{flat_map}
use Rattle.drm_schedule.specs.declared.config.Config.{Config}
use Rattle.drm_schedule.specs.declared.stream.Content.{Content}
use Rattle.drm_schedule.specs.declared.stream.Content.TheVariants.{Fill, File}
use Rattle.drm_schedule.specs.declared.plan.Plan.{Plan}
use Rattle.drm_schedule.specs.Valid.{IsSchedule}
use Rattle.plan_writer.specs.Canonical.{canonical}
use Rattle.text_lines.specs.Texts.{longest_text}
use Rattle.drm_plan.specs.Draft.{attached, valid_of}
use Rattle.drm_plan.specs.Projection.{DraftContents}
use Rattle.drm_plan.specs.Text.{draft_of, IsText}

abbrev pub file_in : Content → List (List ℕ)
file_in (Fill byte) = []
file_in (File name bytes) = bytes ∷ []

abbrev pub files_of : Config → List (List ℕ)
files_of config = flat_map (λ stream. file_in stream.content) config.streams

-- the bytes of the files of a schedule, in the order of its streams
abbrev pub files_in : Plan → List (List ℕ)
files_in schedule = flat_map files_of schedule.configs

-- the draft with these files, the first of which has number k
abbrev pub with_all : ℕ → List (List ℕ) → DraftContents → DraftContents
with_all k [] draft = draft
with_all k (bytes ∷ files) draft = with_all (k + 1) files (attached draft k bytes)

-- The text gives a draft, which these files, one for each line that names one and in their order, make this valid schedule.
pub record TextMakes (text : List ℕ) (files : List (List ℕ)) (schedule : Plan) : Type 0 where
  pub draft : DraftContents
  pub gives : draft_of text ≡ Ok draft
  pub one_each : length files ≡ length draft.files
  pub valid : valid_of (with_all 0 files draft) ≡ Ok schedule

-- A text and files make a schedule exactly where it is a text of it, the schedule is valid, and the files are its own.
abbrev pub TextsMakeSchedules : Type 0
TextsMakeSchedules =
    (text : List ℕ) (files : List (List ℕ)) (schedule : Plan)
    → TextMakes text files schedule ↔ IsText schedule text × IsSchedule schedule × (files ≡ files_in schedule)

-- The canonical text of a valid schedule is a text of it, where it isn't too long.
abbrev pub CanonicalTextsAreTexts : Type 0
CanonicalTextsAreTexts = (schedule : Plan) → IsSchedule schedule → length (canonical schedule) ≤ longest_text → IsText schedule (canonical schedule)
