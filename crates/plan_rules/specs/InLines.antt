-- What holds of the lines that are read: each is one that a text can give, and there are no more than there may be.
use Rattle.std.specs.Prelude.{ℕ, ◌≡◌, ◌≢◌, ◌≤◌, ◌<◌, ◌^◌, false, List, [], ◌∷◌, length, All, IfSome, Some}
use Rattle.plan_rows.specs.declared.keyword.Keyword.TheVariants as keywords
use Rattle.plan_grammar.specs.Said.{keyword_said, LineInLines}
use Rattle.plan_rules.specs.declared.said.ParsedLine.{ParsedLine}
use Rattle.plan_rules.specs.declared.said.ConfigLines.{ConfigLines}
use Rattle.plan_rules.specs.declared.said.ParsedText.{ParsedText}
use Rattle.plan_rules.specs.ParsedLine.{count}
use Rattle.plan_rules.specs.Rules.{count_with, lacks_a_line}

-- a line has no line feed in it
abbrev pub IsSingle : List ℕ → Type 0
IsSingle line = All (λ byte. byte ≢ 10) line

abbrev pub AllInLines : List ParsedLine → Type 0
AllInLines said = All (λ s. LineInLines s.says) said

-- So many entity lines stand behind the last block line before these lines; behind each line there are at most 64.
abbrev pub AreFew : ℕ → List ParsedLine → Type 0
AreFew n [] = n ≤ 64
AreFew n (s ∷ said) = (n ≤ 64) × AreFew (count_with n (keyword_said s.says)) said

pub record BlockInLines (block : ConfigLines) : Type 0 where
  pub start_fits : block.start < 1000000
  pub countdown_fits : block.countdown < 2 ^ 3
  pub each_line : AllInLines block.lines
  pub few_streams : count keywords.Stream block.lines ≤ 4
  pub few_blocks : count keywords.Block block.lines ≤ 64
  pub few_entities : AreFew 0 block.lines

-- a configuration that a later one ended
pub record EndedInLines (block : ConfigLines) : Type 0 where
  pub in_lines : BlockInLines block
  pub complete : lacks_a_line block.lines ≡ false

pub record ReadInLines (read : ParsedText) : Type 0 where
  pub front : AllInLines read.front
  pub few_closed : length read.closed ≤ 15
  pub closed : All EndedInLines read.closed
  pub current : IfSome read.current BlockInLines

-- the last configuration lacks nothing
pub record EndsComplete (read : ParsedText) : Type 0 where
  pub block : ConfigLines
  pub last : read.current ≡ Some block
  pub complete : lacks_a_line block.lines ≡ false
