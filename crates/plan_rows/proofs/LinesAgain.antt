-- A line that is written is cut into its words again.
use Rattle.std.proofs.Common.{◌≡◌, ◌≢◌, ℕ, zero, suc, Bool, true, false, cond, eqb, List, [], ◌∷◌, ◌++◌, length, Some, refl, ap, sym, ◌∙◌, subst, arith}
use Rattle.std.specs.Prelude.{◌&&◌, ◌||◌, ◌==◌, not, Any, All, filter, IsUtf8, if◌then◌else◌}
use Rattle.std.specs.List.{AllByRecursion, join_with_byte, list_all, slice_split, onto_first}
use Rattle.std.proofs.lemmas.Bool.{and_parts, eqb-true, eqb-false}
use Rattle.std.proofs.lemmas.Str.{IsUtf8-nil, IsUtf8-append}
use Rattle.std.proofs.Math.Dec.{eqb-suc-zero}
use Rattle.text_lines.specs.Lines.{words_of, behind_two}
use Rattle.text_lines.proofs.Lacking.{lacks, lacks_both, all_other}
use Rattle.text_lines.proofs.WordLaws.{IsWord, words_again, word_and_rest, behind_again}
use Rattle.text_lines.proofs.LineLaws.{IsLine, joined_is_line}
use Rattle.plan_rows.specs.declared.field.LineField.{LineField}
use Rattle.plan_rows.specs.declared.field.LineField.TheVariants as fields
use Rattle.plan_rows.specs.declared.keyword.Keyword.{Keyword}
use Rattle.plan_rows.specs.declared.value.LineValue.{LineValue}
use Rattle.plan_rows.specs.declared.value.LineValue.TheVariants as values
use Rattle.plan_rows.specs.Keywords.{keyword_text}
use Rattle.plan_rows.specs.Rows.{is_text, ends_in_text, words_written, takes}
use Rattle.plan_rows.specs.Fields.{word_of}
use Rattle.plan_rows.specs.Tables.{is_line, begins, front, row_for}
use Rattle.plan_rows.specs.Law.{IsText, FitsField, AllFit, each_row, is_placed, is_table, LineIsAgain, IsWrittenAgain}
use Rattle.plan_rows.proofs.TableLemmas.{rows_again}
use Rattle.std.proofs.lemmas.Option.{same_Some}
use Rattle.plan_rows.proofs.TokenLemmas.{IsToken, keyword_token, token, tokens, low, lacks_from}

pub line_begins : (f : LineField) (version : ℕ) (keyword : Keyword) → is_line f version keyword ≡ true → begins f ≡ true
line_begins (fields.Line word first last) version keyword is = refl
line_begins _ version keyword is = absurd cc

-- the row that takes the values has what each row has
row_has : (has : List LineField → Bool) (table : List LineField) (version : ℕ) (keyword : Keyword) (vs : List LineValue) (fs : List LineField) → each_row has table ≡ true → row_for table version keyword vs ≡ Some fs → has fs ≡ true
row_has has [] version keyword vs fs each found = absurd cc
row_has has (f ∷ cells) version keyword vs fs each found =
    let parts = and_parts (not (begins f) || has (front cells)) (each_row has cells) each in
    by (is_line f version keyword && takes (front cells) vs) refl found parts.0 (row_has has cells version keyword vs fs parts.1)
  where
    by : (x : Bool) → x ≡ (is_line f version keyword && takes (front cells) vs) → (if x then Some (front cells) else row_for cells version keyword vs) ≡ Some fs → (not (begins f) || has (front cells)) ≡ true → (row_for cells version keyword vs ≡ Some fs → has fs ≡ true) → has fs ≡ true
    by false is e here more = more e
    by true is e here more =
        let begun = line_begins f version keyword (and_parts (is_line f version keyword) (takes (front cells) vs) (sym is)).0 in
        let has_here : has (front cells) ≡ true = rw begun at here in
        rw (sym (same_Some (front cells) fs e)) has_here

all_words : (ws : List (List ℕ)) → AllByRecursion IsToken ws → AllByRecursion IsWord ws
all_words [] are = tt
all_words (w ∷ ws) are = (are.0.word, all_words ws are.1)

all_lines : (ws : List (List ℕ)) → AllByRecursion IsToken ws → AllByRecursion IsLine ws
all_lines [] are = tt
all_lines (w ∷ ws) are = (are.0.line, all_lines ws are.1)

-- a space stands before the rest
behind_space : (bs : List ℕ) → IsUtf8 bs → IsUtf8 (32 ∷ bs)
behind_space bs is = IsUtf8-append (32 ∷ []) bs (low (32 ∷ []) refl) is

joined_utf8 : (ws : List (List ℕ)) → AllByRecursion IsToken ws → IsUtf8 (join_with_byte 32 ws)
joined_utf8 [] are = IsUtf8-nil
joined_utf8 (w ∷ []) are = are.0.utf8
joined_utf8 (w ∷ v ∷ ws) are = IsUtf8-append w (32 ∷ join_with_byte 32 (v ∷ ws)) are.0.utf8 (behind_space (join_with_byte 32 (v ∷ ws)) (joined_utf8 (v ∷ ws) are.1))

no_feed : (line : List ℕ) → lacks 10 line ≡ true → All (λ byte. byte ≢ 10) line
no_feed line is = λ k d lt. eqb-false _ 10 (all_other 10 line is k d lt)

-- a list that has an element
record IsMore (words : List (List ℕ)) : Type 0 where
  first : List ℕ
  more : List (List ℕ)
  is : words ≡ first ∷ more

kept_first : (b : ℕ) (parts : List (List ℕ)) → IsMore (filter (λ word. not (length word == 0)) (onto_first b parts))
kept_first b [] = record { first = b ∷ []; more = []; is = refl }
kept_first b (part ∷ parts) = record { first = b ∷ part; more = filter (λ word. not (length word == 0)) parts; is = rw (eqb-suc-zero (length part)) refl }

later : (b : ℕ) (bs : List ℕ) → b ≡ 32 → Any (λ byte. byte ≢ 32) (b ∷ bs) → Any (λ byte. byte ≢ 32) bs
later b bs space (zero, x, lt, is, other) = absurd (other (sym is ∙ space))
later b bs space (suc k, x, lt, is, other) = (k, x, omega (arith, lt), is, other)

-- a text in which not all bytes are spaces has a word
has_word : (text : List ℕ) → Any (λ byte. byte ≢ 32) text → IsMore (words_of text)
has_word [] (k, x, lt, is, other) = absurd (omega (arith, lt))
has_word (b ∷ bs) seen = by (eqb b 32) refl (λ space. has_word bs (later b bs space seen))
  where
    by : (x : Bool) → x ≡ eqb b 32 → (b ≡ 32 → IsMore (words_of bs)) → IsMore (words_of (b ∷ bs))
    by true e rest = let space : b ≡ 32 = eqb-true b 32 (sym e) in subst (λ (y : Bool). IsMore (filter (λ word. not (length word == 0)) (cond y ([] ∷ slice_split (λ c. c == 32) bs) (onto_first b (slice_split (λ c. c == 32) bs))))) e (rest space)
    by false e rest = subst (λ (y : Bool). IsMore (filter (λ word. not (length word == 0)) (cond y ([] ∷ slice_split (λ c. c == 32) bs) (onto_first b (slice_split (λ c. c == 32) bs))))) e (kept_first b (slice_split (λ c. c == 32) bs))

-- a line of words
plain_line : (table : List LineField) (version : ℕ) (keyword : Keyword) (vs : List LineValue) (fs : List LineField) → is_table version table ≡ true → row_for table version keyword vs ≡ Some fs → AllFit fs vs → ends_in_text fs ≡ false → list_all (λ f. not (is_text f)) fs ≡ true
    → LineIsAgain table version keyword vs (join_with_byte 32 (keyword_text keyword ∷ words_written fs vs))
plain_line table version keyword vs fs is found fits ends others =
    let are : AllByRecursion IsToken (keyword_text keyword ∷ words_written fs vs) = (keyword_token keyword, tokens fs vs others fits) in
    let line : List ℕ = join_with_byte 32 (keyword_text keyword ∷ words_written fs vs) in
    record {
      words = words_written fs vs;
      cut = words_again (keyword_text keyword ∷ words_written fs vs) (all_words (keyword_text keyword ∷ words_written fs vs) are);
      reads = rows_again table version is keyword vs fs line (words_written fs vs) found fits (rw ends refl);
      one_line = no_feed line (joined_is_line (keyword_text keyword ∷ words_written fs vs) (all_lines (keyword_text keyword ∷ words_written fs vs) are));
      utf8 = joined_utf8 (keyword_text keyword ∷ words_written fs vs) are;
    }

-- a line of a word and a text
text_line : (table : List LineField) (version : ℕ) (keyword : Keyword) (f : LineField) (v : LineValue) (characters size : ℕ) (t : List ℕ) → is_table version table ≡ true → row_for table version keyword (v ∷ values.Bytes t ∷ []) ≡ Some (f ∷ fields.Text characters size ∷ []) → not (is_text f) ≡ true → FitsField f v → IsText characters size t
    → LineIsAgain table version keyword (v ∷ values.Bytes t ∷ []) (join_with_byte 32 (keyword_text keyword ∷ word_of f v ∷ t ∷ []))
text_line table version keyword f v characters size t is found other fits text =
    let first = keyword_token keyword in
    let second = token f v other fits in
    let word : List ℕ = word_of f v in
    let rest : List ℕ = word ++ 32 ∷ t in
    let line : List ℕ = keyword_text keyword ++ 32 ∷ rest in
    let more = has_word t text.seen in
    let behind : behind_two line ≡ t = rw (behind_again (keyword_text keyword) rest first.word) (behind_again word t second.word) in
    record {
      words = word ∷ words_of t;
      cut = word_and_rest (keyword_text keyword) rest first.word ∙ ap (λ (ws : List (List ℕ)). keyword_text keyword ∷ ws) (word_and_rest word t second.word);
      reads = rows_again table version is keyword (v ∷ values.Bytes t ∷ []) (f ∷ fields.Text characters size ∷ []) line (word ∷ words_of t) found (fits, (text, tt)) (rw (more.is, behind) refl);
      one_line = no_feed line (lacks_both 10 (keyword_text keyword) (32 ∷ rest) first.line (lacks_both 10 word (32 ∷ t) second.line (lacks_from 10 t text.one_line)));
      utf8 = IsUtf8-append (keyword_text keyword) (32 ∷ rest) first.utf8 (behind_space rest (IsUtf8-append word (32 ∷ t) second.utf8 (behind_space t text.utf8)));
    }

pub table_written : (table : List LineField) (version : ℕ) → is_table version table ≡ true → each_row is_placed table ≡ true → IsWrittenAgain table version
table_written table version is placed keyword vs fs found fits = by fs vs found fits (row_has is_placed table version keyword vs fs placed found)
  where
    by : (fs : List LineField) (vs : List LineValue) → row_for table version keyword vs ≡ Some fs → AllFit fs vs → is_placed fs ≡ true → LineIsAgain table version keyword vs (join_with_byte 32 (keyword_text keyword ∷ words_written fs vs))
    by [] vs found fits e = plain_line table version keyword vs [] is found fits refl refl
    by (f ∷ []) vs found fits e = plain_line table version keyword vs (f ∷ []) is found fits refl e
    by (f ∷ fields.Text characters size ∷ []) [] found fits e = absurd fits
    by (f ∷ fields.Text characters size ∷ []) (v ∷ []) found fits e = absurd fits.1
    by (f ∷ fields.Text characters size ∷ []) (v ∷ values.Bytes t ∷ []) found fits e = text_line table version keyword f v characters size t is found e fits.0 fits.1.0
    by (f ∷ fields.Text characters size ∷ []) (v ∷ values.Bytes t ∷ x ∷ vs) found fits e = absurd fits.1.1
    by (f ∷ fields.Text characters size ∷ []) (v ∷ _ ∷ vs) found fits e = absurd fits.1.0
    by (f ∷ _ ∷ []) vs found fits e = plain_line table version keyword vs (f ∷ _ ∷ []) is found fits refl (rw e refl)
    by (f ∷ g ∷ h ∷ fs) vs found fits e = plain_line table version keyword vs (f ∷ g ∷ h ∷ fs) is found fits refl e
