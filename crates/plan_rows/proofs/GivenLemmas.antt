-- What a clean line gives is of a row of its keyword, each value in its range.
use Rattle.std.proofs.Common.{◌≡◌, ℕ, ◌+◌, ◌%◌, ◌/◌, ◌<◌, ◌≤◌, ◌^◌, suc, Bool, true, false, List, [], ◌∷◌, Some, None, Result, Ok, Err, length, map, refl, sym, ap, subst, inl, inr, arith}
use Rattle.std.specs.Prelude.{All, IfSome, ◌==◌, ◌&&◌, ◌||◌, not, nat_le, is_some, if◌then◌else◌, unwrap_or, slice_index}
use Rattle.std.specs.Result.{result_ok}
use Rattle.std.specs.Int.{from_be_bytes, w16, w32}
use Rattle.std.specs.List.{list_all}
use Rattle.std.specs.Str.{bytes_eq}
use Rattle.std.proofs.lemmas.Bool.{and_parts}
use Rattle.std.proofs.lemmas.Bool.Decides.{nat_tests}
use Rattle.std.proofs.lemmas.List.Elements.{All-head, All-tail, All-nil, All-cons}
use Rattle.std.proofs.lemmas.List.{length-map}
use Rattle.std.proofs.lemmas.List.Splits.{length-slice_split}
use Rattle.std.proofs.lemmas.Option.{same_Some}
use Rattle.hex.specs.declared.error.FromHexError.TheVariants.{OddLength, InvalidStringLength}
use Rattle.hex.specs.Hex.{decode_of, decode_pairs, decode_sized}
use Rattle.hex.proofs.HexLemmas.{decode_of-ok}
use Rattle.drm_bits.specs.Bits.{IsBytes}
use Rattle.text_lines.specs.Hex.{bytes_of}
use Rattle.text_lines.specs.Lines.{behind_two}
use Rattle.drm_sdc.specs.declared.channels.Channel15.{Channel15}
use Rattle.plan_rows.specs.Frequencies.{elements, digits, channel}
use Rattle.plan_rows.specs.Words.{value, hex_value, byte_value, is_none_word, optional_byte_value, bytes_value}
use Rattle.plan_rows.specs.Choices.{names, place_from}
use Rattle.plan_rows.specs.Fields.{suits, check, value_of, verdict}
use Rattle.plan_rows.specs.Rows.{all_suit, is_text, text_parts, parts_of, checks, values_spelled, spells}
use Rattle.plan_rows.specs.Tables.{is_line, begins, front, line_reads}
use Rattle.plan_rows.specs.Law.{each_row, is_placed}
use Rattle.plan_rows.specs.Fits.{IsCleanWord, IsCleanText, IsGiven, AreGiven, row_before, rows_of, AreGivenBy, GivesRow}
use Rattle.plan_rows.proofs.LinesAgain.{line_begins}
use Rattle.plan_rows.specs.declared.field.LineField.{LineField}
use Rattle.plan_rows.specs.declared.field.LineField.TheVariants as fields
use Rattle.plan_rows.specs.declared.value.LineValue.{LineValue}
use Rattle.plan_rows.specs.declared.fault.Wrong.{Wrong}

nil_bytes : IsBytes []
nil_bytes k = omega arith

ok_bytes : {E : Type 0} (r : Result (List ℕ) E) → ((bytes : List ℕ) → r ≡ Ok bytes → IsBytes bytes) → IsBytes (unwrap_or (result_ok r) [])
ok_bytes (Ok bytes) are = are bytes refl
ok_bytes (Err e) are = nil_bytes

of_bytes : (w : List ℕ) → IsBytes (unwrap_or (result_ok (decode_of w)) [])
of_bytes w = ok_bytes (decode_of w) (λ bytes e. (decode_of-ok w bytes e).3)

sized_bytes : (w : List ℕ) (n : ℕ) → IsBytes (unwrap_or (result_ok (decode_sized w n)) [])
sized_bytes w n = by (length w % 2 == 1) (length w / 2 == n) (of_bytes w)
  where
    by : (odd fits : Bool) → IsBytes (unwrap_or (result_ok (if odd then Err OddLength else decode_pairs 0 w)) []) → IsBytes (unwrap_or (result_ok (if odd then Err OddLength else if fits then decode_pairs 0 w else Err InvalidStringLength)) [])
    by true fits are = nil_bytes
    by false true are = are
    by false false are = nil_bytes

hex_bytes : (n : ℕ) (w : List ℕ) → IsBytes (hex_value n w)
hex_bytes n w = sized_bytes w n

byte_small : (w : List ℕ) → byte_value w < 2 ^ 8
byte_small w = hex_bytes 1 w 0

optional_small : (w : List ℕ) → IfSome (optional_byte_value w) (λ byte. byte < 2 ^ 8)
optional_small w = by (is_none_word w)
  where
    by : (b : Bool) → IfSome (if b then None else Some (byte_value w)) (λ byte. byte < 2 ^ 8)
    by true = tt
    by false = byte_small w

value_bytes : (w : List ℕ) → IsBytes (bytes_value w)
value_bytes w = by (is_none_word w)
  where
    by : (b : Bool) → IsBytes (unwrap_or (if b then Some [] else bytes_of w) [])
    by true = nil_bytes
    by false = of_bytes w

three_bytes : (bytes : List ℕ) → IsBytes bytes → from_be_bytes w32 (0 ∷ bytes) < 2 ^ 24
three_bytes bytes are =
    let a : slice_index bytes 0 < 2 ^ 8 = are 0 in
    let b : slice_index bytes 1 < 2 ^ 8 = are 1 in
    let c : slice_index bytes 2 < 2 ^ 8 = are 2 in
    omega arith

two_bytes : (bytes : List ℕ) → IsBytes bytes → from_be_bytes w16 bytes < 2 ^ 16
two_bytes bytes are =
    let a : slice_index bytes 0 < 2 ^ 8 = are 0 in
    let b : slice_index bytes 1 < 2 ^ 8 = are 1 in
    omega arith

-- the place of a word that is found
place_below : (k : ℕ) (set : List (List ℕ)) (word : List ℕ) → is_some (place_from k set word) ≡ true → unwrap_or (place_from k set word) 0 < k + length set
place_below k [] word is = absurd cc
place_below k (first ∷ more) word is = by (bytes_eq word first) refl is (place_below (k + 1) more word)
  where
    by : (x : Bool) → x ≡ bytes_eq word first → is_some (if x then Some k else place_from (k + 1) more word) ≡ true → (is_some (place_from (k + 1) more word) ≡ true → unwrap_or (place_from (k + 1) more word) 0 < k + 1 + length more)
        → unwrap_or (if x then Some k else place_from (k + 1) more word) 0 < k + length (first ∷ more)
    by true e is more_below = omega arith
    by false e is more_below = omega (arith, more_below is)

channels_fit : (parts : List (List ℕ)) → list_all (λ element. nat_le (value (digits element)) 32767) parts ≡ true → All (λ (c : Channel15). c.number < 2 ^ 15) (map channel parts)
channels_fit [] e = All-nil (λ (c : Channel15). c.number < 2 ^ 15)
channels_fit (p ∷ parts) e = by (nat_le (value (digits p)) 32767) (list_all (λ element. nat_le (value (digits element)) 32767) parts) refl refl e (channels_fit parts)
  where
    by : (a b : Bool) → a ≡ nat_le (value (digits p)) 32767 → b ≡ list_all (λ element. nat_le (value (digits element)) 32767) parts → (a && b) ≡ true
        → (list_all (λ element. nat_le (value (digits element)) 32767) parts ≡ true → All (λ (c : Channel15). c.number < 2 ^ 15) (map channel parts)) → All (λ (c : Channel15). c.number < 2 ^ 15) (map channel (p ∷ parts))
    by true true small rest e more =
        let here : value (digits p) < 2 ^ 15 = grind (arith, nat_tests) in
        All-cons (λ (c : Channel15). c.number < 2 ^ 15) (channel p) (map channel parts) here (more (sym rest))
    by true false small rest e more = absurd cc
    by false b small rest e more = absurd cc

-- what is asked of a word beside that it spells its field
abbrev IsClean : LineField → List ℕ → Type 0
IsClean (fields.Text characters size) text = IsCleanText text
IsClean f word = IsCleanWord word

given : (f : LineField) (w : List ℕ) → IsClean f w → suits f w ≡ true → (check f w).in_range ≡ true → IsGiven f (value_of f w)
given (fields.Line keyword first last) w clean suit ranged = tt
given (fields.Byte least greatest) w clean suit ranged = (grind (arith, nat_tests), grind (arith, nat_tests))
given (fields.Short least greatest) w clean suit ranged = (grind (arith, nat_tests), grind (arith, nat_tests))
given (fields.Long least greatest) w clean suit ranged = (grind (arith, nat_tests), grind (arith, nat_tests))
given fields.Bit w clean suit ranged = tt
given fields.RawKind w clean suit ranged = ranged
given fields.Hex2 w clean suit ranged = byte_small w
given fields.Hex4 w clean suit ranged = two_bytes (hex_value 2 w) (hex_bytes 2 w)
given fields.Hex6 w clean suit ranged = three_bytes (hex_value 3 w) (hex_bytes 3 w)
given fields.OptionalByte w clean suit ranged = optional_small w
given (fields.Bytes most) w clean suit ranged = (grind (arith, nat_tests), value_bytes w)
given (fields.Name most) w clean suit ranged = record { utf8 = clean.utf8; unspaced = clean.unspaced; one_line = clean.one_line; some = clean.some; few = grind (arith, nat_tests) }
given (fields.Text characters size) w clean suit ranged = record { utf8 = clean.utf8; one_line = clean.one_line; seen = clean.seen; few = grind (arith, nat_tests); short = grind (arith, nat_tests) }
given fields.Frequencies w clean suit ranged =
    let each : list_all (λ element. nat_le (value (digits element)) 32767) (elements w) ≡ true = grind (arith, nat_tests) in
    (rw (length-map (elements w) channel) (omega (arith, length-slice_split (λ b. b == 44) w)), rw (length-map (elements w) channel) (grind (arith, nat_tests)), channels_fit (elements w) each)
given (fields.Choice set) w clean suit ranged = let below = place_below 0 (names set) w suit in omega (arith, below)
given (fields.Fixed set place) w clean suit ranged = refl

-- each word is as its field wants it
abbrev AreClean : List LineField → List (List ℕ) → Type 0
AreClean (f ∷ fs) (w ∷ ws) = IsClean f w × AreClean fs ws
AreClean _ _ = Unit {0}

-- values that stand behind others
shifted : (fs : List LineField) (k : ℕ) (v : LineValue) (vs : List LineValue) → AreGiven fs k vs → AreGiven fs (suc k) (v ∷ vs)
shifted [] k v vs are = tt
shifted (f ∷ fs) k v vs are = (are.0, shifted fs (suc k) v vs are.1)

all_given : (fs : List LineField) (ws : List (List ℕ)) → AreClean fs ws → all_suit fs ws ≡ true → list_all (λ p. p.in_range) (checks fs ws) ≡ true → (length (values_spelled fs ws) ≡ length fs) × AreGiven fs 0 (values_spelled fs ws)
all_given [] [] clean suit ranged = (refl, tt)
all_given [] (w ∷ ws) clean suit ranged = absurd cc
all_given (f ∷ fs) [] clean suit ranged = absurd cc
all_given (f ∷ fs) (w ∷ ws) clean suit ranged =
    let suits_both = and_parts (suits f w) (all_suit fs ws) suit in
    let ranged_both = and_parts (check f w).in_range (list_all (λ p. p.in_range) (checks fs ws)) ranged in
    let more = all_given fs ws clean.1 suits_both.1 ranged_both.1 in
    let same = more.0 in
    (omega (arith, same), (given f w clean.0 suits_both.0 ranged_both.0, shifted fs 0 (value_of f w) (values_spelled fs ws) more.1))

abbrev good : List LineValue → Result (List LineValue) Wrong
good vs = Ok vs

ok_same : (a b : List LineValue) → good a ≡ good b → a ≡ b
ok_same a b e = same_Some a b (ap result_ok e)

-- words that spelled values
spelled : (fs : List LineField) (ws : List (List ℕ)) (vs : List LineValue) → AreClean fs ws → all_suit fs ws ≡ true → spells fs ws ≡ Ok vs → (length vs ≡ length fs) × AreGiven fs 0 vs
spelled fs ws vs clean suit e = by (list_all (λ p. p.is_spelled) (checks fs ws)) (list_all (λ p. p.in_range) (checks fs ws)) refl e
  where
    by : (s r : Bool) → r ≡ list_all (λ p. p.in_range) (checks fs ws) → verdict s r (values_spelled fs ws) ≡ Ok vs → (length vs ≡ length fs) × AreGiven fs 0 vs
    by true true is ok = subst (λ (x : List LineValue). (length x ≡ length fs) × AreGiven fs 0 x) (ok_same (values_spelled fs ws) vs ok) (all_given fs ws clean suit (sym is))
    by true false is ok = absurd cc
    by false r is ok = absurd cc

plain_clean : (fs : List LineField) (ws : List (List ℕ)) → list_all (λ f. not (is_text f)) fs ≡ true → All IsCleanWord ws → AreClean fs ws
plain_clean [] ws others clean = tt
plain_clean (f ∷ fs) [] others clean = tt
plain_clean (f ∷ fs) (w ∷ ws) others clean =
    let parts = and_parts (not (is_text f)) (list_all (λ g. not (is_text g)) fs) others in
    (one f parts.0 (All-head IsCleanWord w ws clean), plain_clean fs ws parts.1 (All-tail IsCleanWord w ws clean))
  where
    one : (f : LineField) → not (is_text f) ≡ true → IsCleanWord w → IsClean f w
    one (fields.Text characters size) other is = absurd cc
    one (fields.Line keyword first last) other is = is
    one _ other is = is

text_clean : (g : LineField) (t : List ℕ) → is_text g ≡ true → IsCleanText t → IsClean g t
text_clean (fields.Text characters size) t is clean = clean
text_clean _ t is clean = absurd cc

-- what a row reads of a clean line is clean
clean_parts : (fs : List LineField) (line : List ℕ) (ws : List (List ℕ)) → is_placed fs ≡ true → All IsCleanWord ws → (2 ≤ length ws → IsCleanText (behind_two line)) → AreClean fs (parts_of fs line ws)
clean_parts [] line ws placed clean text = tt
clean_parts (f ∷ []) line ws placed clean text = plain_clean (f ∷ []) ws (rw placed refl) clean
clean_parts (f ∷ g ∷ []) line ws placed clean text = by (is_text g) refl
  where
    in_text : is_text g ≡ true → (ws : List (List ℕ)) → All IsCleanWord ws → (2 ≤ length ws → IsCleanText (behind_two line)) → AreClean (f ∷ g ∷ []) (text_parts line ws)
    in_text is [] clean text = tt
    in_text is (w ∷ []) clean text = tt
    in_text is (w ∷ x ∷ more) clean text =
        let first : AreClean (f ∷ []) (w ∷ []) = plain_clean (f ∷ []) (w ∷ []) (rw placed refl) (All-cons IsCleanWord w [] (All-head IsCleanWord w (x ∷ more) clean) (All-nil IsCleanWord)) in
        (first.0, (text_clean g (behind_two line) is (text (omega arith)), tt))

    by : (x : Bool) → x ≡ is_text g → AreClean (f ∷ g ∷ []) (if x then text_parts line ws else ws)
    by true e = in_text (sym e) ws clean text
    by false e = plain_clean (f ∷ g ∷ []) ws (rw (placed, sym e) refl) clean
clean_parts (f ∷ g ∷ h ∷ fs) line ws placed clean text = plain_clean (f ∷ g ∷ h ∷ fs) ws placed clean

pub table_gives : (table : List LineField) (version : ℕ) → each_row is_placed table ≡ true → GivesRow table version
table_gives [] version placed keyword line ws vs clean e = absurd cc
table_gives (f ∷ cells) version placed keyword line ws vs clean e =
    let parts = and_parts (not (begins f) || is_placed (front cells)) (each_row is_placed cells) placed in
    by (is_line f version keyword) (all_suit (front cells) (parts_of (front cells) line ws)) refl refl e parts.0 (table_gives cells version parts.1 keyword line ws vs clean)
  where
    by : (x y : Bool) → x ≡ is_line f version keyword → y ≡ all_suit (front cells) (parts_of (front cells) line ws) → (if x && y then spells (front cells) (parts_of (front cells) line ws) else line_reads cells version keyword line ws) ≡ good vs
        → (not (begins f) || is_placed (front cells)) ≡ true → (line_reads cells version keyword line ws ≡ good vs → AreGivenBy (rows_of cells version keyword) vs) → AreGivenBy (row_before x (front cells) (rows_of cells version keyword)) vs
    by true true is suit ok here more = inl (spelled (front cells) (parts_of (front cells) line ws) vs (clean_parts (front cells) line ws (rw (line_begins f version keyword (sym is)) at here) clean.each clean.text) (sym suit) ok)
    by true false is suit ok here more = inr (more ok)
    by false y is suit ok here more = more ok
