-- A table of lines. Each begins with its keyword and the versions of the text in which it stands, and goes on to the next; of the
-- lines of one keyword the first that has the words, or takes the values, is meant.
use Rattle.std.specs.Prelude.{ℕ, ◌&&◌, nat_le, Bool, true, false, List, [], ◌∷◌, Option, Some, None, Result, Err, if◌then◌else◌, unwrap_or}
use Rattle.std.specs.List.{join_with_byte}
use Rattle.std.specs.Str.{bytes_eq}
use Rattle.plan_rows.specs.declared.field.LineField.{LineField}
use Rattle.plan_rows.specs.declared.field.LineField.TheVariants as fields
use Rattle.plan_rows.specs.declared.keyword.Keyword.{Keyword}
use Rattle.plan_rows.specs.declared.value.LineValue.{LineValue}
use Rattle.plan_rows.specs.declared.fault.Wrong.{Wrong}
use Rattle.plan_rows.specs.declared.fault.Wrong.TheVariants.{Word}
use Rattle.plan_rows.specs.Keywords.{keyword_text, same}
use Rattle.plan_rows.specs.Rows.{all_suit, parts_of, spells, takes, words_written}

-- whether a line of this keyword begins here, in this version
abbrev pub is_line : LineField → ℕ → Keyword → Bool
is_line (fields.Line word first last) version keyword = same word keyword && (nat_le first version && nat_le version last)
is_line _ version keyword = false

-- the keyword that a word is, if a line of the table begins with it in this version
abbrev pub keyword_in : List LineField → ℕ → List ℕ → Option Keyword
keyword_in [] version word = None
keyword_in (fields.Line keyword first last ∷ cells) version word =
    if bytes_eq word (keyword_text keyword) && (nat_le first version && nat_le version last) then Some keyword else keyword_in cells version word
keyword_in (_ ∷ cells) version word = keyword_in cells version word

-- whether a line begins here
abbrev pub begins : LineField → Bool
begins (fields.Line keyword first last) = true
begins _ = false

-- the fields up to the next line
abbrev pub front : List LineField → List LineField
front [] = []
front (f ∷ cells) = if begins f then [] else f ∷ front cells

-- what a line says, by the whole line and the words after the first
abbrev pub line_reads : List LineField → ℕ → Keyword → List ℕ → List (List ℕ) → Result (List LineValue) Wrong
line_reads [] version keyword line ws = Err Word
line_reads (f ∷ cells) version keyword line ws =
    if is_line f version keyword && all_suit (front cells) (parts_of (front cells) line ws) then spells (front cells) (parts_of (front cells) line ws)
    else line_reads cells version keyword line ws

-- the first row of a keyword that takes the values
abbrev pub row_for : List LineField → ℕ → Keyword → List LineValue → Option (List LineField)
row_for [] version keyword vs = None
row_for (f ∷ cells) version keyword vs = if is_line f version keyword && takes (front cells) vs then Some (front cells) else row_for cells version keyword vs

-- values written as a line, by the row that takes them; a line of the keyword alone where there is none
unfoldable pub line_written : List LineField → ℕ → Keyword → List LineValue → List ℕ
line_written table version keyword vs = join_with_byte 32 (keyword_text keyword ∷ words_written (unwrap_or (row_for table version keyword vs) []) vs)
