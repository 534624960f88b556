-- What is known of the values that a line gave.
use Rattle.std.specs.Prelude.{ℕ, suc, ◌≡◌, ◌≢◌, ◌<◌, ◌≤◌, ◌^◌, Bool, true, false, List, [], ◌∷◌, length, All, Any, IfSome, ◌⊎◌, IsTrue, IsUtf8, Ok}
use Rattle.text_lines.specs.Lines.{behind_two}
use Rattle.drm_bits.specs.Bits.{IsBytes}
use Rattle.drm_sdc.specs.declared.channels.Channel15.{Channel15}
use Rattle.plan_rows.specs.declared.field.LineField.{LineField}
use Rattle.plan_rows.specs.declared.field.LineField.TheVariants as fields
use Rattle.plan_rows.specs.declared.keyword.Keyword.{Keyword}
use Rattle.plan_rows.specs.declared.value.LineValue.{LineValue}
use Rattle.plan_rows.specs.Words.{is_raw_kind}
use Rattle.plan_rows.specs.Choices.{names}
use Rattle.plan_rows.specs.Values.{byte_in, short_in, number_in, optional_byte_in, bytes_in, frequencies_in, value_at}
use Rattle.plan_rows.specs.Tables.{is_line, front, line_reads}
use Rattle.plan_rows.specs.Law.{IsName, IsText, each_row, is_placed}

-- a word as a line of UTF-8 gives it
pub record IsCleanWord (word : List ℕ) : Type 0 where
  pub utf8 : IsUtf8 word
  pub unspaced : All (λ byte. byte ≢ 32) word
  pub one_line : All (λ byte. byte ≢ 10) word
  pub some : 1 ≤ length word

-- a rest of a line of UTF-8 in which something is seen
pub record IsCleanText (text : List ℕ) : Type 0 where
  pub utf8 : IsUtf8 text
  pub one_line : All (λ byte. byte ≢ 10) text
  pub seen : Any (λ byte. byte ≢ 32) text

-- the words after the first of such a line, and what stands behind two of its words
pub record IsCleanLine (line : List ℕ) (words : List (List ℕ)) : Type 0 where
  pub each : All IsCleanWord words
  pub text : 2 ≤ length words → IsCleanText (behind_two line)

-- what is known of the value that a field gave
abbrev pub IsGiven : LineField → LineValue → Type 0
IsGiven (fields.Byte least greatest) v = (least ≤ byte_in v) × (byte_in v ≤ greatest)
IsGiven (fields.Short least greatest) v = (least ≤ short_in v) × (short_in v ≤ greatest)
IsGiven (fields.Long least greatest) v = (least ≤ number_in v) × (number_in v ≤ greatest)
IsGiven fields.RawKind v = IsTrue (is_raw_kind (byte_in v))
IsGiven fields.Hex2 v = byte_in v < 2 ^ 8
IsGiven fields.Hex4 v = short_in v < 2 ^ 16
IsGiven fields.Hex6 v = number_in v < 2 ^ 24
IsGiven fields.OptionalByte v = IfSome (optional_byte_in v) (λ b. b < 2 ^ 8)
IsGiven (fields.Bytes most) v = (length (bytes_in v) ≤ most) × IsBytes (bytes_in v)
IsGiven (fields.Name most) v = IsName most (bytes_in v)
IsGiven (fields.Text characters size) v = IsText characters size (bytes_in v)
IsGiven fields.Frequencies v = (1 ≤ length (frequencies_in v)) × (length (frequencies_in v) ≤ 16) × All (λ (c : Channel15). c.number < 2 ^ 15) (frequencies_in v)
IsGiven (fields.Choice set) v = byte_in v < length (names set)
IsGiven (fields.Fixed set place) v = byte_in v ≡ place
IsGiven _ v = Unit {0}

-- the same of the values from place k on
abbrev pub AreGiven : List LineField → ℕ → List LineValue → Type 0
AreGiven [] k vs = Unit {0}
AreGiven (f ∷ fs) k vs = IsGiven f (value_at vs k) × AreGiven fs (suc k) vs

abbrev pub row_before : Bool → List LineField → List (List LineField) → List (List LineField)
row_before true fs rows = fs ∷ rows
row_before false fs rows = rows

-- the rows of a keyword in a version
abbrev pub rows_of : List LineField → ℕ → Keyword → List (List LineField)
rows_of [] version keyword = []
rows_of (f ∷ cells) version keyword = row_before (is_line f version keyword) (front cells) (rows_of cells version keyword)

-- the values are of one of these rows
abbrev pub AreGivenBy : List (List LineField) → List LineValue → Type 0
AreGivenBy [] vs = ⊥
AreGivenBy (fs ∷ rows) vs = ((length vs ≡ length fs) × AreGiven fs 0 vs) ⊎ AreGivenBy rows vs

-- what a clean line gives
abbrev pub GivesRow : List LineField → ℕ → Type 0
GivesRow table version =
    (keyword : Keyword) (line : List ℕ) (ws : List (List ℕ)) (vs : List LineValue) → IsCleanLine line ws → line_reads table version keyword line ws ≡ Ok vs
    → AreGivenBy (rows_of table version keyword) vs

abbrev pub GiveRows : Type 0
GiveRows = (table : List LineField) (version : ℕ) → each_row is_placed table ≡ true → GivesRow table version
