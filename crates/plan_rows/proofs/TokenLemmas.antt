-- The words of values are words of one line of UTF-8.
use Rattle.std.proofs.Common.{◌≡◌, ◌≢◌, ℕ, ◌<◌, ◌^◌, Bool, true, false, List, [], ◌∷◌, length, get_or, Option, Some, None, refl, arith, eqb, ◌++◌, ◌≤◌}
use Rattle.std.specs.Prelude.{◌&&◌, ◌==◌, not, nat_lt, decimal, All, IsUtf8}
use Rattle.std.specs.List.{AllByRecursion, list_all}
use Rattle.std.specs.Str.{IsAscii}
use Rattle.std.proofs.lemmas.Bool.{and_parts, ne_eqb}
use Rattle.std.proofs.lemmas.Bool.Decides.{nat_tests}
use Rattle.std.proofs.lemmas.Fmt.{IsAscii-decimal}
use Rattle.std.proofs.lemmas.List.Elements.{All-head, All-tail}
use Rattle.std.proofs.lemmas.Str.{IsUtf8-from_ascii, IsUtf8-append}
use Rattle.std.proofs.lemmas.Str.Ascii.{IsAscii-nil, IsAscii-cons}
use Rattle.hex.specs.Hex.{encode_lower, lower_digits}
use Rattle.hex.proofs.HexLemmas.{IsAscii-encode_with}
use Rattle.text_lines.proofs.Lacking.{lacks, lacks_both}
use Rattle.text_lines.proofs.WordLaws.{IsWord, decimal_is_word, hex_is_word}
use Rattle.text_lines.proofs.LineLaws.{IsLine, decimal_is_line, hex_is_line}
use Rattle.drm_sdc.specs.declared.channels.Channel15.{Channel15}
use Rattle.std.proofs.Math.Dec.{eqb-suc-zero}
use Rattle.plan_rows.specs.Frequencies.{channel_word, channels_word}
use Rattle.plan_rows.proofs.FrequencyLaws.{Fits15, channel_lacks}
use Rattle.plan_rows.specs.Keywords.{keyword_text}
use Rattle.plan_rows.specs.Words.{bit_word, optional_byte_word, bytes_word}
use Rattle.plan_rows.specs.Choices.{names}
use Rattle.plan_rows.specs.Rows.{is_text, words_written}
use Rattle.plan_rows.specs.Fields.{word_of}
use Rattle.plan_rows.specs.Law.{FitsField, AllFit, IsName}
use Rattle.plan_rows.proofs.FieldsAgain.{raw_small}
use Rattle.plan_rows.proofs.TableLemmas.{not_true, each_at}
use Rattle.plan_rows.specs.declared.choice.Choice.{Choice}
use Rattle.plan_rows.specs.declared.choice.Choice.TheVariants as choices
use Rattle.plan_rows.specs.declared.field.LineField.{LineField}
use Rattle.plan_rows.specs.declared.field.LineField.TheVariants as fields
use Rattle.plan_rows.specs.declared.keyword.Keyword.{Keyword}
use Rattle.plan_rows.specs.declared.keyword.Keyword.TheVariants as keywords
use Rattle.plan_rows.specs.declared.value.LineValue.{LineValue}
use Rattle.plan_rows.specs.declared.value.LineValue.TheVariants as values

-- a word without a line feed, in UTF-8
pub record IsToken (w : List ℕ) : Type 0 where
  pub word : IsWord w
  pub line : IsLine w
  pub utf8 : IsUtf8 w

abbrev is_low : List ℕ → Bool
is_low [] = true
is_low (b ∷ bs) = nat_lt b 128 && is_low bs

low_ascii : (bs : List ℕ) → is_low bs ≡ true → IsAscii bs
low_ascii [] e = IsAscii-nil
low_ascii (b ∷ bs) e = let parts = and_parts (nat_lt b 128) (is_low bs) e in IsAscii-cons b bs (grind (arith, nat_tests)) (low_ascii bs parts.1)

pub low : (bs : List ℕ) → is_low bs ≡ true → IsUtf8 bs
low bs e = IsUtf8-from_ascii bs (low_ascii bs e)

-- a word that can be seen to be one
abbrev is_token : List ℕ → Bool
is_token w = not (length w == 0) && (lacks 32 w && (lacks 10 w && is_low w))

seen : (w : List ℕ) → is_token w ≡ true → IsToken w
seen w e =
    let some = and_parts (not (length w == 0)) (lacks 32 w && (lacks 10 w && is_low w)) e in
    let whole = and_parts (lacks 32 w) (lacks 10 w && is_low w) some.1 in
    let line = and_parts (lacks 10 w) (is_low w) whole.1 in
    record { word = record { some = not_true _ some.0; whole = whole.0 }; line = line.0; utf8 = low w line.1 }

pub keyword_token : (k : Keyword) → IsToken (keyword_text k)
keyword_token keywords.Drmplan = seen _ refl
keyword_token _ = seen _ refl

names_tokens : (c : Choice) → list_all is_token (names c) ≡ true
names_tokens choices.Version = refl
names_tokens _ = refl

name_token : (c : Choice) (k : ℕ) → k < length (names c) → IsToken (get_or (names c) k [])
name_token c k lt = seen _ (each_at is_token (names c) k [] lt (names_tokens c))

number_token : (n : ℕ) → n < 2 ^ 64 → IsToken (decimal n)
number_token n small = record { word = decimal_is_word n small; line = decimal_is_line n small; utf8 = IsUtf8-from_ascii (decimal n) (IsAscii-decimal n small) }

bit_token : (b : Bool) → IsToken (bit_word b)
bit_token true = seen _ refl
bit_token false = seen _ refl

hex_token : (b : ℕ) (bs : List ℕ) → IsToken (encode_lower (b ∷ bs))
hex_token b bs = record { word = hex_is_word b bs; line = hex_is_line (b ∷ bs); utf8 = IsUtf8-from_ascii (encode_lower (b ∷ bs)) (IsAscii-encode_with lower_digits (b ∷ bs) (low_ascii lower_digits refl)) }

optional_token : (byte : Option ℕ) → IsToken (optional_byte_word byte)
optional_token None = seen _ refl
optional_token (Some b) = hex_token b []

bytes_token : (bs : List ℕ) → IsToken (bytes_word bs)
bytes_token [] = seen _ refl
bytes_token (b ∷ bs) = hex_token b bs

pub lacks_from : (c : ℕ) (bs : List ℕ) → All (λ b. b ≢ c) bs → lacks c bs ≡ true
lacks_from c [] all = refl
lacks_from c (b ∷ bs) all = rw (ne_eqb b c (All-head (λ x. x ≢ c) b bs all)) (lacks_from c bs (All-tail (λ x. x ≢ c) b bs all))

own_token : (most : ℕ) (name : List ℕ) → IsName most name → IsToken name
own_token most name is = record {
  word = record { some = ne_eqb (length name) 0 (λ e. let some = is.some in omega (arith, e, some)); whole = lacks_from 32 name is.unspaced };
  line = lacks_from 10 name is.one_line;
  utf8 = is.utf8;
}

joined_lacks : (byte : ℕ) (cs : List Channel15) → AllByRecursion Fits15 cs → eqb 43 byte ≡ false → eqb 44 byte ≡ false → ((48 ≤ byte) × (byte ≤ 57) → ⊥) → lacks byte (channels_word cs) ≡ true
joined_lacks byte [] fits plus comma digit = refl
joined_lacks byte (c ∷ []) fits plus comma digit = channel_lacks byte c fits.0 plus digit
joined_lacks byte (c ∷ d ∷ cs) fits plus comma digit =
    lacks_both byte (channel_word c) (44 ∷ channels_word (d ∷ cs)) (channel_lacks byte c fits.0 plus digit) (rw comma (joined_lacks byte (d ∷ cs) fits.1 plus comma digit))

channel_some : (c : Channel15) → Fits15 c → (length (channel_word c) == 0) ≡ false
channel_some c fits = by c.first c.number fits
  where
    by : (first : Bool) (n : ℕ) → n < 2 ^ 15 → (length (channel_word (record { first = first; number = n })) == 0) ≡ false
    by true n small = eqb-suc-zero (length (decimal n))
    by false n small = (decimal_is_word n (omega arith)).some

some_joined : (xs ys : List ℕ) → (length xs == 0) ≡ false → (length (xs ++ ys) == 0) ≡ false
some_joined [] ys some = absurd cc
some_joined (x ∷ xs) ys some = eqb-suc-zero (length (xs ++ ys))

channels_some : (cs : List Channel15) → 1 ≤ length cs → AllByRecursion Fits15 cs → (length (channels_word cs) == 0) ≡ false
channels_some [] some fits = absurd (omega arith)
channels_some (c ∷ []) some fits = channel_some c fits.0
channels_some (c ∷ d ∷ cs) some fits = some_joined (channel_word c) (44 ∷ channels_word (d ∷ cs)) (channel_some c fits.0)

channel_utf8 : (c : Channel15) → c.number < 2 ^ 15 → IsUtf8 (channel_word c)
channel_utf8 c small = by c.first c.number small
  where
    by : (first : Bool) (n : ℕ) → n < 2 ^ 15 → IsUtf8 (channel_word (record { first = first; number = n }))
    by true n small = IsUtf8-append (43 ∷ []) (decimal n) (low _ refl) (number_token n (omega (arith, small))).utf8
    by false n small = (number_token n (omega (arith, small))).utf8

channels_utf8 : (cs : List Channel15) → AllByRecursion Fits15 cs → IsUtf8 (channels_word cs)
channels_utf8 [] fit = low _ refl
channels_utf8 (c ∷ []) fit = channel_utf8 c fit.0
channels_utf8 (c ∷ d ∷ cs) fit =
    IsUtf8-append (channel_word c) (44 ∷ channels_word (d ∷ cs)) (channel_utf8 c fit.0) (IsUtf8-append (44 ∷ []) (channels_word (d ∷ cs)) (low _ refl) (channels_utf8 (d ∷ cs) fit.1))

channels_token : (cs : List Channel15) → 1 ≤ length cs → AllByRecursion Fits15 cs → IsToken (channels_word cs)
channels_token cs some fits = record {
  word = record { some = channels_some cs some fits; whole = joined_lacks 32 cs fits refl refl (λ r. omega (arith, r)) };
  line = joined_lacks 10 cs fits refl refl (λ r. omega (arith, r));
  utf8 = channels_utf8 cs fits;
}

pub token : (f : LineField) (v : LineValue) → not (is_text f) ≡ true → FitsField f v → IsToken (word_of f v)
token (fields.Byte least greatest) (values.Byte n) other fits = number_token n (omega (arith, fits.2))
token (fields.Short least greatest) (values.Short n) other fits = number_token n (omega (arith, fits.2))
token (fields.Long least greatest) (values.Long n) other fits = number_token n (omega (arith, fits.2))
token fields.Bit (values.Flag b) other fits = bit_token b
token fields.RawKind (values.Byte n) other fits = number_token n (omega (arith, raw_small n fits))
token fields.Hex2 (values.Byte n) other fits = hex_token _ _
token fields.Hex4 (values.Short n) other fits = hex_token _ _
token fields.Hex6 (values.Long n) other fits = hex_token _ _
token fields.OptionalByte (values.OptionalByte byte) other fits = optional_token byte
token (fields.Bytes most) (values.Bytes bs) other fits = bytes_token bs
token (fields.Name most) (values.Bytes name) other fits = own_token most name fits
token (fields.Text characters size) v other fits = absurd cc
token fields.Frequencies (values.Frequencies list) other fits = channels_token list fits.0 fits.2
token (fields.Choice set) (values.Byte k) other fits = name_token set k fits
token (fields.Fixed set place) (values.Byte k) other fits = name_token set place fits.1
token _ _ other fits = absurd fits

pub tokens : (fs : List LineField) (vs : List LineValue) → list_all (λ f. not (is_text f)) fs ≡ true → AllFit fs vs → AllByRecursion IsToken (words_written fs vs)
tokens [] vs others fits = tt
tokens (f ∷ fs) [] others fits = tt
tokens (f ∷ fs) (v ∷ vs) others fits =
    let parts = and_parts (not (is_text f)) (list_all (λ g. not (is_text g)) fs) others in
    (token f v parts.0 fits.0, tokens fs vs parts.1 fits.1)
