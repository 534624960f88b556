-- What the lines of a text say, in their order, and how many of a kind there are.
use Rattle.std.specs.Prelude.{ℕ, List, [], ◌∷◌, ◌++◌, length, filter, Option, Some, None}
use Rattle.std.specs.Option.{option_to_list}
use Rattle.plan_grammar.specs.declared.line.Line.{Line}
use Rattle.plan_grammar.specs.declared.line.Line.TheVariants as lines
use Rattle.plan_rows.specs.declared.keyword.Keyword.{Keyword}
use Rattle.plan_rows.specs.Keywords.{same}
use Rattle.plan_grammar.specs.Said.{keyword_said}
use Rattle.plan_rules.specs.declared.said.ParsedLine.{ParsedLine}
use Rattle.plan_rules.specs.declared.said.ConfigLines.{ConfigLines}
use Rattle.plan_rules.specs.declared.said.ParsedText.{ParsedText}

abbrev pub nothing : ParsedText
nothing = record { front = []; closed = []; current = None }

abbrev pub put_into : ParsedLine → List ParsedLine → List ConfigLines → Option ConfigLines → ParsedText
put_into said front closed None = record { front = front ++ said ∷ []; closed = closed; current = None }
put_into said front closed (Some block) = record { front = front; closed = closed; current = Some (record block { lines = block.lines ++ said ∷ [] }) }

-- a line of the last configuration, or one before the first
abbrev pub put : ParsedLine → ParsedText → ParsedText
put said read = put_into said read.front read.closed read.current

abbrev pub begin : ℕ → ℕ → ℕ → ParsedText → ParsedText
begin n start countdown read = record {
  front = read.front;
  closed = read.closed ++ option_to_list read.current;
  current = Some (record { line = n; start = start; countdown = countdown; lines = [] });
}

-- one more line: a config line begins a configuration
abbrev pub add : ℕ → Line → ParsedText → ParsedText
add n (lines.Config start countdown) read = begin n start countdown read
add n line read = put (record { line = n; says = line }) read

-- how many of these lines are of this keyword
abbrev pub count : Keyword → List ParsedLine → ℕ
count keyword said = length (filter (λ s. same (keyword_said s.says) keyword) said)
