-- What the canonical text says: the schedule, but for the bytes of its files.
use Rattle.std.specs.Prelude.{ℕ, ◌≡◌, List, Ok, All}
use Rattle.drm_schedule.specs.declared.stream.Content.{Content}
use Rattle.drm_schedule.specs.declared.stream.Content.TheVariants.{Fill, File}
use Rattle.drm_schedule.specs.declared.plan.Plan.{Plan}
use Rattle.text_lines.specs.Lines.{lines_of}
use Rattle.plan_writer.specs.Canonical.{canonical}
use Rattle.drm_plan.specs.Files.{without_files}
use Rattle.drm_plan.specs.Projection.{DraftContents}
use Rattle.drm_plan.specs.Text.{lines_give}

-- the lines of the canonical text give the plan again, without the bytes of its files
pub record IsReadAgain (plan : Plan) : Type 0 where
  pub draft : DraftContents
  pub lines : lines_give (lines_of (canonical plan)) ≡ Ok draft
  pub same : draft.plan ≡ without_files plan

-- what holds of the name and the bytes of a file
abbrev pub OfFile : (List ℕ → List ℕ → Type 0) → Content → Type 0
OfFile P (Fill byte) = Unit {0}
OfFile P (File name bytes) = P name bytes

-- it holds of each file of the plan
abbrev pub EachFile : (List ℕ → List ℕ → Type 0) → Plan → Type 0
EachFile P plan = All (λ config. All (λ stream. OfFile P stream.content) config.streams) plan.configs
