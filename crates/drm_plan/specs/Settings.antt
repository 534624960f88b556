-- A line that was found, as its value.
use Rattle.std.specs.Prelude.{Option, Some, None}
use Rattle.std.specs.Borrow.{Bor}
use Rattle.plan_grammar.specs.declared.line.Line.{Line}
use Rattle.plan_rules.specs.declared.said.ParsedLine.{ParsedLine}

abbrev pub said_by : Option (Bor ParsedLine) → Option ParsedLine
said_by None = None
said_by (Some said) = Some said.now

abbrev pub line_by : Option (Bor Line) → Option Line
line_by None = None
line_by (Some line) = Some line.now
