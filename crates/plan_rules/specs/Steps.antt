-- What a call answers of what the lines say, and the checks of a line as the calls make them.
use Rattle.std.specs.Prelude.{ℕ, ◌+◌, ◌||◌, Bool, Option, Some, None, Result, Ok, Err, if◌then◌else◌}
use Rattle.drm_schedule.specs.declared.invalid.Reason.{Reason}
use Rattle.drm_schedule.specs.declared.invalid.Reason.TheVariants.{Word, Order, Twice, TooLong, Missing}
use Rattle.plan_grammar.specs.declared.version.Version.{Version}
use Rattle.plan_rows.specs.declared.keyword.Keyword.{Keyword}
use Rattle.plan_rules.specs.declared.said.ConfigLines.{ConfigLines}
use Rattle.plan_rules.specs.declared.said.ParsedText.{ParsedText}
use Rattle.plan_rules.specs.declared.fault.PlanFault.{PlanFault}
use Rattle.plan_rules.specs.declared.fault.PlanFault.TheVariants as plan
use Rattle.text_lines.specs.Faults.{fault, FailsAt, GivesSaid, LeavesSaid}
use Rattle.plan_rules.specs.Rules.{ScheduleTextFault, is_misplaced, is_second, is_too_many, is_17th, in_current, is_incomplete}

-- a call's fault as one of the text
abbrev pub line_fault : PlanFault → Option ScheduleTextFault
line_fault plan.NoMemory = None
line_fault (plan.Line line reason) = Some (fault line reason)

-- a call that fails as the reading does, unless memory ran out
abbrev pub FailsAs : {X : Type 0} → PlanFault → Result X ScheduleTextFault → Type 0
FailsAs p read = FailsAt (line_fault p) read

-- the lines read on, or failed at their first fault, unless memory ran out
abbrev pub LinesStep : Result (Unit {0}) PlanFault → ParsedText → Result ParsedText ScheduleTextFault → Type 0
LinesStep r new said = LeavesSaid line_fault r new said

-- what is read, or the first fault, unless memory ran out
abbrev pub ReadsLines : {X : Type 0} → Result X PlanFault → Result X ScheduleTextFault → Type 0
ReadsLines r said = GivesSaid line_fault r said

abbrev pub check_rows : Bool → Bool → Bool → ℕ → Result (Unit {0}) PlanFault
check_rows misplaced second full n =
    if misplaced then Err (plan.Line n Order)
    else if second then Err (plan.Line n Twice)
    else if full then Err (plan.Line n TooLong)
    else Ok tt

-- what is wrong with a line of this keyword, whose words are right, after these lines
unfoldable pub check_of : ParsedText → ℕ → Keyword → Result (Unit {0}) PlanFault
check_of read n keyword =
    check_rows (is_misplaced read keyword) (in_current (is_second keyword) read.current) (in_current (is_too_many keyword) read.current || is_17th read keyword) n

-- the fault of a line that has this fault by itself
abbrev pub refuse : Bool → ℕ → Reason → PlanFault
refuse misplaced n Word = plan.Line n Word
refuse misplaced n reason = if misplaced then plan.Line n Order else plan.Line n reason

unfoldable pub refused_of : ParsedText → ℕ → Keyword → Reason → PlanFault
refused_of read n keyword reason = refuse (is_misplaced read keyword) n reason

-- the end of a text, as a check
unfoldable pub end_check : Option Version → Option ConfigLines → ℕ → Result (Unit {0}) PlanFault
end_check version None n = Err (plan.Line (n + 1) Missing)
end_check version (Some block) n = if is_incomplete version block.lines then Err (plan.Line block.line Missing) else Ok tt
