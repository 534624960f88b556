-- A row: the fields of a line, one for each word behind its keyword.
use Rattle.std.specs.Prelude.{ℕ, ◌==◌, Bool, true, false, List, [], ◌∷◌, Result, if◌then◌else◌}
use Rattle.std.specs.List.{list_all}
use Rattle.std.specs.Cmp.Lexicographic.{pointwise}
use Rattle.text_lines.specs.Lines.{behind_two}
use Rattle.plan_rows.specs.declared.field.LineField.{LineField}
use Rattle.plan_rows.specs.declared.field.LineField.TheVariants as fields
use Rattle.plan_rows.specs.declared.value.LineValue.{LineValue}
use Rattle.plan_rows.specs.declared.fault.Wrong.{Wrong}
use Rattle.plan_rows.specs.Words.{WordCheck}
use Rattle.plan_rows.specs.Fields.{suits, check, value_of, verdict, word_of}
use Rattle.plan_rows.specs.Values.{byte_in}

-- as many words as fields, each of which suits
abbrev pub all_suit : List LineField → List (List ℕ) → Bool
all_suit fs ws = pointwise suits fs ws

abbrev pub checks : List LineField → List (List ℕ) → List WordCheck
checks (f ∷ fs) (w ∷ ws) = check f w ∷ checks fs ws
checks _ _ = []

abbrev pub values_spelled : List LineField → List (List ℕ) → List LineValue
values_spelled (f ∷ fs) (w ∷ ws) = value_of f w ∷ values_spelled fs ws
values_spelled _ _ = []

-- What words that suit spell: `Number` where one isn't spelled as it has to be, else `Range` where one is out of its range.
abbrev pub spells : List LineField → List (List ℕ) → Result (List LineValue) Wrong
spells fs ws = verdict (list_all (λ p. p.is_spelled) (checks fs ws)) (list_all (λ p. p.in_range) (checks fs ws)) (values_spelled fs ws)

abbrev pub is_text : LineField → Bool
is_text (fields.Text characters size) = true
is_text _ = false

-- a row whose second and last word is the rest of the line
abbrev pub ends_in_text : List LineField → Bool
ends_in_text (f ∷ g ∷ []) = is_text g
ends_in_text _ = false

abbrev pub text_parts : List ℕ → List (List ℕ) → List (List ℕ)
text_parts line (first ∷ second ∷ more) = first ∷ behind_two line ∷ []
text_parts line _ = []

-- what a row reads of a line: its words after the first, or a word and a text
abbrev pub parts_of : List LineField → List ℕ → List (List ℕ) → List (List ℕ)
parts_of fs line ws = if ends_in_text fs then text_parts line ws else ws

-- whether a value is of the line that has this word here, if the field has only one
abbrev pub takes_one : LineField → LineValue → Bool
takes_one (fields.Fixed set place) v = byte_in v == place
takes_one _ v = true

-- as many values as fields, each of a word that can stand there
abbrev pub takes : List LineField → List LineValue → Bool
takes fs vs = pointwise takes_one fs vs

abbrev pub words_written : List LineField → List LineValue → List (List ℕ)
words_written (f ∷ fs) (v ∷ vs) = word_of f v ∷ words_written fs vs
words_written _ _ = []
