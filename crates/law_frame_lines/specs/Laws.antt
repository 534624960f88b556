-- From an item that is a schedule's frame to its printed line.
use Rattle.std.specs.Prelude.{ℕ, ◌≡◌, List}
use Rattle.drm_schedule.specs.declared.plan.Plan.{Plan}
use Rattle.mod_feed.specs.Items.{FrameItem}
use Rattle.law_delivery.specs.Given.{IsServed}
use Rattle.report_text.specs.Report.{item_line}
use Rattle.law_frame_lines.specs.Line.{IsFrameLine}

-- Where an item is frame t of the schedule, what is printed of it is the line of that frame.
abbrev pub ServedLines : Type 0
ServedLines = (plan : Plan) (t q : ℕ) (item : FrameItem) → IsServed plan t q item → IsFrameLine plan t q (item_line item)

-- A frame has one line under each number.
abbrev pub HasOneLine : Type 0
HasOneLine = (plan : Plan) (t q : ℕ) (line other : List ℕ) → IsFrameLine plan t q line → IsFrameLine plan t q other → line ≡ other
