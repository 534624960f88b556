-- Values that a row can give, and the law that they are read again.
use Rattle.std.specs.Prelude.{ℕ, ◌≡◌, ◌≢◌, ◌<◌, ◌≤◌, ◌^◌, ◌&&◌, ◌||◌, not, Bool, true, false, List, [], ◌∷◌, length, get_or, Some, All, Any, IfSome, IsTrue, IsUtf8, Ok}
use Rattle.std.specs.List.{AllByRecursion, list_all, join_with_byte}
use Rattle.std.specs.Str.{bytes_eq, chars}
use Rattle.drm_bits.specs.Bits.{IsBytes}
use Rattle.drm_sdc.specs.declared.channels.Channel15.{Channel15}
use Rattle.plan_rows.specs.declared.field.LineField.{LineField}
use Rattle.plan_rows.specs.declared.field.LineField.TheVariants as fields
use Rattle.plan_rows.specs.declared.keyword.Keyword.{Keyword}
use Rattle.plan_rows.specs.declared.value.LineValue.{LineValue}
use Rattle.plan_rows.specs.declared.value.LineValue.TheVariants as values
use Rattle.text_lines.specs.Lines.{words_of}
use Rattle.plan_rows.specs.Keywords.{keyword_text}
use Rattle.plan_rows.specs.Words.{is_raw_kind}
use Rattle.plan_rows.specs.Choices.{names}
use Rattle.plan_rows.specs.Rows.{is_text, ends_in_text, parts_of, words_written}
use Rattle.plan_rows.specs.Tables.{is_line, begins, front, row_for, line_reads}

-- A word of a line, in UTF-8: neither a space nor a line feed is in it.
pub record IsName (most : ℕ) (name : List ℕ) : Type 0 where
  pub utf8 : IsUtf8 name
  pub unspaced : All (λ byte. byte ≢ 32) name
  pub one_line : All (λ byte. byte ≢ 10) name
  pub some : 1 ≤ length name
  pub few : length name ≤ most

-- The rest of a line, in UTF-8: of at most so many characters, none of them a line feed, and not all of them spaces.
pub record IsText (characters size : ℕ) (text : List ℕ) : Type 0 where
  pub utf8 : IsUtf8 text
  pub one_line : All (λ byte. byte ≢ 10) text
  pub seen : Any (λ byte. byte ≢ 32) text
  pub few : length (chars text) ≤ characters
  pub short : length text ≤ size

-- a value that a field can give
abbrev pub FitsField : LineField → LineValue → Type 0
FitsField (fields.Byte least greatest) (values.Byte n) = (least ≤ n) × (n ≤ greatest) × (n < 2 ^ 8)
FitsField (fields.Short least greatest) (values.Short n) = (least ≤ n) × (n ≤ greatest) × (n < 2 ^ 16)
FitsField (fields.Long least greatest) (values.Long n) = (least ≤ n) × (n ≤ greatest) × (n < 2 ^ 32)
FitsField fields.Bit (values.Flag b) = Unit {0}
FitsField fields.RawKind (values.Byte n) = IsTrue (is_raw_kind n)
FitsField fields.Hex2 (values.Byte n) = n < 2 ^ 8
FitsField fields.Hex4 (values.Short n) = n < 2 ^ 16
FitsField fields.Hex6 (values.Long n) = n < 2 ^ 24
FitsField fields.OptionalByte (values.OptionalByte byte) = IfSome byte (λ b. b < 2 ^ 8)
FitsField (fields.Bytes most) (values.Bytes bytes) = (length bytes ≤ most) × IsBytes bytes
FitsField (fields.Name most) (values.Bytes name) = IsName most name
FitsField (fields.Text characters size) (values.Bytes text) = IsText characters size text
FitsField fields.Frequencies (values.Frequencies list) = (1 ≤ length list) × (length list ≤ 16) × AllByRecursion (λ (c : Channel15). c.number < 2 ^ 15) list
FitsField (fields.Choice set) (values.Byte k) = k < length (names set)
FitsField (fields.Fixed set place) (values.Byte k) = (k ≡ place) × (place < length (names set))
FitsField _ _ = ⊥

-- a value for each field
abbrev pub AllFit : List LineField → List LineValue → Type 0
AllFit [] [] = Unit {0}
AllFit (f ∷ fs) (v ∷ vs) = FitsField f v × AllFit fs vs
AllFit _ _ = ⊥

-- two fields that no word suits
abbrev pub clash : LineField → LineField → Bool
clash (fields.Fixed set place) (fields.Fixed other at) = not (bytes_eq (get_or (names other) at []) (get_or (names set) place []))
clash _ _ = false

-- no words suit both rows
abbrev pub apart : List LineField → List LineField → Bool
apart [] [] = false
apart (f ∷ fs) (g ∷ gs) = clash f g || apart fs gs
apart _ _ = true

-- no words suit these fields and those of a line of the keyword behind them
abbrev pub later_differ : ℕ → Keyword → List LineField → List LineField → Bool
later_differ version keyword fs [] = true
later_differ version keyword fs (g ∷ cells) =
    (not (is_line g version keyword) || (not (ends_in_text fs) && not (ends_in_text (front cells)) && apart fs (front cells))) && later_differ version keyword fs cells

abbrev pub line_differs : ℕ → LineField → List LineField → Bool
line_differs version (fields.Line keyword first last) cells = later_differ version keyword (front cells) cells
line_differs version _ cells = true

-- no words suit two lines of one keyword in this version
abbrev pub is_table : ℕ → List LineField → Bool
is_table version [] = true
is_table version (f ∷ cells) = line_differs version f cells && is_table version cells

-- what is written of fitting values, by the row of the table that takes them, is read by the table as the same values
abbrev pub IsTableReadAgain : List LineField → ℕ → Type 0
IsTableReadAgain table version =
    (keyword : Keyword) (vs : List LineValue) (fs : List LineField) (line : List ℕ) (ws : List (List ℕ)) → row_for table version keyword vs ≡ Some fs → AllFit fs vs → parts_of fs line ws ≡ words_written fs vs
    → line_reads table version keyword line ws ≡ Ok vs

-- each line of the table has this
abbrev pub each_row : (List LineField → Bool) → List LineField → Bool
each_row has [] = true
each_row has (f ∷ cells) = (not (begins f) || has (front cells)) && each_row has cells

-- a text is the second and last of a row's fields, or there is none
abbrev pub is_placed : List LineField → Bool
is_placed (f ∷ g ∷ []) = not (is_text f)
is_placed fs = list_all (λ f. not (is_text f)) fs

-- A line that is written of values is one line of UTF-8, and is cut into its keyword and words that are read as the values.
pub record LineIsAgain (table : List LineField) (version : ℕ) (keyword : Keyword) (vs : List LineValue) (line : List ℕ) : Type 0 where
  pub words : List (List ℕ)
  pub cut : words_of line ≡ keyword_text keyword ∷ words
  pub reads : line_reads table version keyword line words ≡ Ok vs
  pub one_line : All (λ byte. byte ≢ 10) line
  pub utf8 : IsUtf8 line

-- the law of a table: what is written of fitting values is read again
abbrev pub IsWrittenAgain : List LineField → ℕ → Type 0
IsWrittenAgain table version =
    (keyword : Keyword) (vs : List LineValue) (fs : List LineField) → row_for table version keyword vs ≡ Some fs → AllFit fs vs
    → LineIsAgain table version keyword vs (join_with_byte 32 (keyword_text keyword ∷ words_written fs vs))

-- a table of which no two rows have the same words, with each text in its place
abbrev pub AreWrittenAgain : Type 0
AreWrittenAgain = (table : List LineField) (version : ℕ) → is_table version table ≡ true → each_row is_placed table ≡ true → IsWrittenAgain table version
