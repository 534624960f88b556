-- What the lines of a text say, or the first fault of the text.
use Rattle.std.specs.Prelude.{ℕ, zero, suc, ◌+◌, ◌==◌, ◌&&◌, ◌||◌, not, nat_le, nat_lt, Bool, true, false, is_err, length, List, [], ◌∷◌, Option, Some, None, Result, Ok, Err, if◌then◌else◌}
use Rattle.std.specs.List.{list_any}
use Rattle.text_lines.specs.Faults.{FaultOf, fault, first_fault, ok_unless, words_say, lines_say, ◌>>=◌}
use Rattle.text_lines.specs.Lines.{words_of}
use Rattle.drm_schedule.specs.declared.invalid.Reason.{Reason}
use Rattle.drm_schedule.specs.declared.invalid.Reason.TheVariants.{Word, Order, Twice, TooLong, Missing}
use Rattle.plan_grammar.specs.declared.version.Version.{Version}
use Rattle.plan_grammar.specs.declared.version.Version.TheVariants.{One, Two}
use Rattle.plan_grammar.specs.declared.line.Line.{Line}
use Rattle.plan_grammar.specs.declared.line.Line.TheVariants as lines
use Rattle.plan_rows.specs.declared.keyword.Keyword.{Keyword}
use Rattle.plan_rows.specs.declared.keyword.Keyword.TheVariants as keywords
use Rattle.plan_rows.specs.Tables as tables
use Rattle.plan_grammar.specs.declared.table.TheConstants.{TABLE}
use Rattle.plan_grammar.specs.Says.{line_said, number_of}
use Rattle.plan_rows.specs.Keywords.{same}
use Rattle.plan_grammar.specs.Said.{keyword_said}
use Rattle.plan_rules.specs.declared.said.ParsedLine.{ParsedLine}
use Rattle.plan_rules.specs.declared.said.ConfigLines.{ConfigLines}
use Rattle.plan_rules.specs.declared.said.ParsedText.{ParsedText}
use Rattle.plan_rules.specs.ParsedLine.{nothing, add, count}

-- a fault of a schedule's text
abbrev pub ScheduleTextFault : Type 0
ScheduleTextFault = FaultOf Reason

-- the four first lines come in this order, and then a configuration begins
abbrev pub keyword_at : ℕ → Keyword
keyword_at zero = keywords.Drmplan
keyword_at (suc zero) = keywords.Carry
keyword_at (suc (suc zero)) = keywords.First
keyword_at (suc (suc (suc zero))) = keywords.Length
keyword_at (suc (suc (suc (suc n)))) = keywords.Config

abbrev pub is_front : Keyword → Bool
is_front keywords.Drmplan = true
is_front keywords.Carry = true
is_front keywords.First = true
is_front keywords.Length = true
is_front _ = false

-- what a configuration has at most once
abbrev pub is_single : Keyword → Bool
is_single keywords.Mode = true
is_single keywords.Occupancy = true
is_single keywords.Depth = true
is_single keywords.Msc = true
is_single keywords.Sdc = true
is_single keywords.Protection = true
is_single keywords.Room = true
is_single keywords.Clock = true
is_single _ = false

-- what a configuration must have
abbrev pub needed : List Keyword
needed =
    keywords.Mode ∷ keywords.Occupancy ∷ keywords.Depth ∷ keywords.Msc ∷ keywords.Sdc ∷ keywords.Protection ∷ keywords.Room
    ∷ keywords.Service ∷ keywords.Stream ∷ []

abbrev pub is_entity : Keyword → Bool
is_entity keywords.Label = true
is_entity keywords.Freq = true
is_entity keywords.When = true
is_entity keywords.App = true
is_entity keywords.Audio = true
is_entity keywords.Language = true
is_entity keywords.Raw = true
is_entity _ = false

-- how many entity lines stand behind the last block line, where so many stood before these lines
abbrev pub count_with : ℕ → Keyword → ℕ
count_with n keyword = if same keyword keywords.Block then 0 else if is_entity keyword then n + 1 else n

abbrev pub count_entities : ℕ → List ParsedLine → ℕ
count_entities n [] = n
count_entities n (s ∷ said) = count_entities (count_with n (keyword_said s.says)) said

-- ---- the version of the text

-- the version that the first line says, if there is one yet
abbrev pub version_in : List ParsedLine → Option Version
version_in [] = None
version_in (s ∷ said) = of s.says
  where
    of : Line → Option Version
    of (lines.Version version) = Some version
    of _ = None

abbrev pub is_one : Option Version → Bool
is_one (Some One) = true
is_one _ = false

abbrev pub is_two : Option Version → Bool
is_two (Some Two) = true
is_two _ = false

-- the version by whose rows a line is read: where none is said yet, the newest
abbrev pub reads_as : Option Version → Version
reads_as version = if is_one version then One else Two

-- the keyword that a word is in a text of this version
unfoldable pub keyword_in : Option Version → List ℕ → Option Keyword
keyword_in version word = tables.keyword_in TABLE (number_of (reads_as version)) word

-- ---- the rules

-- a line from mode to clock
abbrev pub is_setting : Keyword → Bool
is_setting keyword = not (is_front keyword || same keyword keywords.Config || same keyword keywords.Block || is_entity keyword)

-- in version 2 an entity line stands behind a block line, and no line from mode to clock does
abbrev pub is_out_of_order : Option Version → Keyword → List ParsedLine → Bool
is_out_of_order version keyword part =
    is_two version && (if count keywords.Block part == 0 then is_entity keyword else is_setting keyword)

-- a line of this keyword is out of its place
abbrev pub is_misplaced : ParsedText → Keyword → Bool
is_misplaced read keyword = of read.current
  where
    of : Option ConfigLines → Bool
    of None = not (same keyword (keyword_at (length read.front)))
    of (Some block) = is_front keyword || is_out_of_order (version_in read.front) keyword block.lines

-- what holds of the lines of the last configuration, if there is one
abbrev pub in_current : (List ParsedLine → Bool) → Option ConfigLines → Bool
in_current test None = false
in_current test (Some block) = test block.lines

-- a configuration without one of its settings, a service or a stream
unfoldable pub lacks_a_line : List ParsedLine → Bool
lacks_a_line part = list_any (λ keyword. count keyword part == 0) needed

-- or in version 2 a block
abbrev pub is_incomplete : Option Version → List ParsedLine → Bool
is_incomplete version part = lacks_a_line part || (is_two version && count keywords.Block part == 0)

-- a line of which its configuration has one, and may have no second
unfoldable pub is_second : Keyword → List ParsedLine → Bool
is_second keyword part = is_single keyword && nat_lt 0 (count keyword part)

-- one more than there may be: a fifth stream, a 65th block, a 65th entity line of a block
unfoldable pub is_too_many : Keyword → List ParsedLine → Bool
is_too_many keywords.Stream part = nat_le 4 (count keywords.Stream part)
is_too_many keywords.Block part = nat_le 64 (count keywords.Block part)
is_too_many keyword part = is_entity keyword && nat_le 64 (count_entities 0 part)

-- a 17th configuration
abbrev pub is_17th : ParsedText → Keyword → Bool
is_17th read keyword = same keyword keywords.Config && nat_le 15 (length read.closed)

abbrev pub current_line : Option ConfigLines → ℕ
current_line None = 0
current_line (Some block) = block.line

-- a line that isn't of the words of its keyword
abbrev pub is_wordless : Result Line Reason → Bool
is_wordless (Err Word) = true
is_wordless _ = false

-- a fault that a line has by itself
abbrev pub own_fault : ℕ → Result Line Reason → ScheduleTextFault
own_fault n (Ok line) = fault n Word
own_fault n (Err reason) = fault n reason

-- a config line ends the configuration before it, which then lacks something
abbrev pub ends_incomplete : ParsedText → Keyword → Bool
ends_incomplete read keyword = same keyword keywords.Config && in_current (is_incomplete (version_in read.front)) read.current

-- The rows for line n, a line of this keyword that by itself says this, after these lines: the first that holds is the fault.
abbrev pub rows_of : ParsedText → ℕ → Keyword → Result Line Reason → List (Bool × ScheduleTextFault)
rows_of read n keyword says =
    (ends_incomplete read keyword, fault (current_line read.current) Missing)
    ∷ (is_wordless says, fault n Word)
    ∷ (is_misplaced read keyword, fault n Order)
    ∷ (is_err says, own_fault n says)
    ∷ (in_current (is_second keyword) read.current, fault n Twice)
    ∷ (in_current (is_too_many keyword) read.current || is_17th read keyword, fault n TooLong)
    ∷ []

abbrev pub add_said : ℕ → Result Line Reason → ParsedText → ParsedText
add_said n (Ok line) read = add n line read
add_said n (Err reason) read = read

-- a line that by itself says this, after these lines
unfoldable pub said_after : ParsedText → ℕ → Keyword → Result Line Reason → Result ParsedText ScheduleTextFault
said_after read n keyword says = ok_unless (first_fault (rows_of read n keyword says)) (add_said n says read)

abbrev pub said_keyword : ParsedText → ℕ → Option Keyword → List ℕ → List (List ℕ) → Result ParsedText ScheduleTextFault
said_keyword read n None line words = Err (fault n Word)
said_keyword read n (Some keyword) line words = said_after read n keyword (line_said (reads_as (version_in read.front)) keyword line words)

-- a line of these words
abbrev pub said_words : ParsedText → ℕ → List ℕ → List (List ℕ) → Result ParsedText ScheduleTextFault
said_words read n line words = words_say read (λ first more. said_keyword read n (keyword_in (version_in read.front) first) line more) words

-- line n after these lines
unfoldable pub said_line : ParsedText → ℕ → List ℕ → Result ParsedText ScheduleTextFault
said_line read n line = said_words read n line (words_of line)

-- lines from line n on, after these lines
abbrev pub said_from : ParsedText → ℕ → List (List ℕ) → Result ParsedText ScheduleTextFault
said_from read n lines = lines_say said_line read n lines

-- what a text of n lines lacks at its end: a configuration, or a part of the last one
abbrev pub end_rows : Option Version → Option ConfigLines → ℕ → List (Bool × ScheduleTextFault)
end_rows version None n = (true, fault (n + 1) Missing) ∷ []
end_rows version (Some block) n = (is_incomplete version block.lines, fault block.line Missing) ∷ []

-- the end of a text of n lines
unfoldable pub ended : ℕ → ParsedText → Result ParsedText ScheduleTextFault
ended n read = ok_unless (first_fault (end_rows (version_in read.front) read.current n)) read

-- what all lines of a text say
unfoldable pub said : List (List ℕ) → Result ParsedText ScheduleTextFault
said lines = do
  read ← said_from nothing 1 lines
  ended (length lines) read
