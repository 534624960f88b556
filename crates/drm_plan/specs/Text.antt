-- What a text gives.
use Rattle.std.specs.Prelude.{ℕ, ◌≡◌, nat_lt, List, length, Result, Ok, Err, if◌then◌else◌}
use Rattle.std.specs.Str.{is_utf8}
use Rattle.text_lines.specs.Faults.{fault, ◌>>=◌}
use Rattle.text_lines.specs.Lines.{lines_of, bad_line_of}
use Rattle.text_lines.specs.Texts.{longest_text}
use Rattle.drm_schedule.specs.declared.invalid.Reason.TheVariants.{TooLong, Utf8}
use Rattle.drm_schedule.specs.declared.plan.Plan.{Plan}
use Rattle.plan_rules.specs.Rules.{ScheduleTextFault, said}
use Rattle.drm_plan.specs.Files.{without_files}
use Rattle.drm_plan.specs.Projection.{DraftContents, drafted}

-- the draft that the lines of a text give, or their first fault
unfoldable pub lines_give : List (List ℕ) → Result DraftContents ScheduleTextFault
lines_give lines = said lines >>= λ read. Ok (drafted read)

-- the draft that a text gives, or its first fault: that it is too long, then that it is no UTF-8, then that of its lines
unfoldable pub draft_of : List ℕ → Result DraftContents ScheduleTextFault
draft_of text =
    if nat_lt longest_text (length text) then Err (fault 0 TooLong)
    else if is_utf8 text then lines_give (lines_of text)
    else Err (fault (bad_line_of text) Utf8)

-- the text gives the schedule, but for the bytes of its files
pub record IsText (schedule : Plan) (text : List ℕ) : Type 0 where
  pub draft : DraftContents
  pub gives : draft_of text ≡ Ok draft
  pub same : without_files draft.plan ≡ without_files schedule
