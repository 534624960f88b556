-- What is written of values is read again.
use Rattle.std.proofs.Common.{◌≡◌, ℕ, ◌≤◌, ◌<◌, ◌^◌, zero, suc, true, List, [], ◌∷◌, length, get_or, Some, Ok, refl, sym, ap, arith}
use Rattle.std.specs.Prelude.{◌≢◌, Any, IsTrue, IsUtf8}
use Rattle.std.specs.Str.{bytes_eq, chars}
use Rattle.std.proofs.lemmas.Str.{encodes-chars}
use Rattle.std.proofs.lemmas.Slice.Eq.{bytes_eq-Decides}
use lib.Utf8.{encodes}
use Rattle.std.proofs.lemmas.Bool.{le-leb}
use Rattle.std.proofs.lemmas.Bool.Decides.{nat_tests}
use Rattle.text_lines.proofs.SpellingLaws.{decimal_is_number, decimal_value}
use Rattle.plan_rows.specs.declared.choice.Choice.{Choice}
use Rattle.plan_rows.specs.declared.choice.Choice.TheVariants as choices
use Rattle.plan_rows.specs.declared.field.LineField.{LineField}
use Rattle.plan_rows.specs.declared.field.LineField.TheVariants as fields
use Rattle.plan_rows.specs.declared.value.LineValue.{LineValue}
use Rattle.plan_rows.specs.declared.value.LineValue.TheVariants as values
use Rattle.plan_rows.specs.Words.{is_raw_kind, text}
use Rattle.plan_rows.specs.Choices.{names, place_from}
use Rattle.plan_rows.specs.Fields.{suits, check, value_of, word_of, spells_one}
use Rattle.plan_rows.specs.Rows.{all_suit, words_written, spells}
use Rattle.plan_rows.specs.Law.{FitsField, AllFit, IsText}
use Rattle.plan_rows.proofs.Reading.{spells_cons}
use Rattle.plan_rows.proofs.FrequencyLaws.{frequencies_good, channels_again}
use Rattle.plan_rows.proofs.WordsAgain.{Good, number_good, bit_good, flag_again, hex6_good, hex6_again, hex4_good, hex4_again, byte_good, byte_again, optional_good, optional_again, bytes_good, bytes_value_again}

-- A word that is written of a value spells it again.
pub record IsAgain (f : LineField) (v : LineValue) : Type 0 where
  pub suit : suits f (word_of f v) ≡ true
  pub spelled : (check f (word_of f v)).is_spelled ≡ true
  pub ranged : (check f (word_of f v)).in_range ≡ true
  pub value : value_of f (word_of f v) ≡ v

from_good : (f : LineField) (v : LineValue) → suits f (word_of f v) ≡ true → Good (check f (word_of f v)) → value_of f (word_of f v) ≡ v → IsAgain f v
from_good f v suit good value = record { suit = suit; spelled = good.spelled; ranged = good.ranged; value = value }

-- the words of a set differ
found : (c : Choice) (k : ℕ) → k < length (names c) → place_from 0 (names c) (get_or (names c) k []) ≡ Some k
found choices.Version zero lt = refl
found choices.Version (suc zero) lt = refl
found choices.Version (suc (suc k)) lt = absurd (omega arith)
found choices.Carry zero lt = refl
found choices.Carry (suc zero) lt = refl
found choices.Carry (suc (suc k)) lt = absurd (omega arith)
found choices.Mode zero lt = refl
found choices.Mode (suc zero) lt = refl
found choices.Mode (suc (suc zero)) lt = refl
found choices.Mode (suc (suc (suc zero))) lt = refl
found choices.Mode (suc (suc (suc (suc k)))) lt = absurd (omega arith)
found choices.Depth zero lt = refl
found choices.Depth (suc zero) lt = refl
found choices.Depth (suc (suc k)) lt = absurd (omega arith)
found choices.Kind zero lt = refl
found choices.Kind (suc zero) lt = refl
found choices.Kind (suc (suc k)) lt = absurd (omega arith)
found choices.Content zero lt = refl
found choices.Content (suc zero) lt = refl
found choices.Content (suc (suc k)) lt = absurd (omega arith)
found choices.Form zero lt = refl
found choices.Form (suc zero) lt = refl
found choices.Form (suc (suc k)) lt = absurd (omega arith)

-- the types of raw lines are below 16
pub raw_small : (kind : ℕ) → IsTrue (is_raw_kind kind) → kind < 16
raw_small kind is = grind (arith, nat_tests)

-- a text of a label has a character
some_character : (text : List ℕ) → IsUtf8 text → Any (λ byte. byte ≢ 32) text → 1 ≤ length (chars text)
some_character text utf8 (k, x, lt, is, other) = by (chars text) (encodes-chars text utf8)
  where
    by : (cs : List ℕ) → encodes cs ≡ text → 1 ≤ length cs
    by [] none = let empty : length text ≡ 0 = ap (λ (l : List ℕ). length l) (sym none) in absurd (omega (arith, lt, empty))
    by (c ∷ cs) e = omega arith

text_good : (characters size : ℕ) (t : List ℕ) → IsText characters size t → (text characters size t).in_range ≡ true
text_good characters size t is = rw (le-leb 1 (length (chars t)) (some_character t is.utf8 is.seen), le-leb (length (chars t)) characters is.few, le-leb (length t) size is.short) refl

same_bytes : (word : List ℕ) → bytes_eq word word ≡ true
same_bytes word = (bytes_eq-Decides word word).1 refl

pub again : (f : LineField) (v : LineValue) → FitsField f v → IsAgain f v
again (fields.Byte least greatest) (values.Byte n) fits =
    let small : n < 10 ^ 10 = omega (arith, fits.2) in
    from_good (fields.Byte least greatest) (values.Byte n) refl (number_good least greatest n fits.0 fits.1 small) (ap (λ x. values.Byte x) (decimal_value n small))
again (fields.Short least greatest) (values.Short n) fits =
    let small : n < 10 ^ 10 = omega (arith, fits.2) in
    from_good (fields.Short least greatest) (values.Short n) refl (number_good least greatest n fits.0 fits.1 small) (ap (λ x. values.Short x) (decimal_value n small))
again (fields.Long least greatest) (values.Long n) fits =
    let small : n < 10 ^ 10 = omega (arith, fits.2) in
    from_good (fields.Long least greatest) (values.Long n) refl (number_good least greatest n fits.0 fits.1 small) (ap (λ x. values.Long x) (decimal_value n small))
again fields.Bit (values.Flag b) fits = from_good fields.Bit (values.Flag b) refl (bit_good b) (ap (λ x. values.Flag x) (flag_again b))
again fields.RawKind (values.Byte n) fits =
    let small : n < 10 ^ 10 = omega (arith, raw_small n fits) in
    from_good fields.RawKind (values.Byte n) refl (record { spelled = decimal_is_number n small; ranged = rw (decimal_value n small) fits }) (ap (λ x. values.Byte x) (decimal_value n small))
again fields.Hex2 (values.Byte n) fits = from_good fields.Hex2 (values.Byte n) refl (byte_good n fits) (ap (λ x. values.Byte x) (byte_again n fits))
again fields.Hex4 (values.Short n) fits = from_good fields.Hex4 (values.Short n) refl (hex4_good n) (ap (λ x. values.Short x) (hex4_again n fits))
again fields.Hex6 (values.Long n) fits = from_good fields.Hex6 (values.Long n) refl (hex6_good n) (ap (λ x. values.Long x) (hex6_again n fits))
again fields.OptionalByte (values.OptionalByte byte) fits = from_good fields.OptionalByte (values.OptionalByte byte) refl (optional_good byte fits) (ap (λ x. values.OptionalByte x) (optional_again byte fits))
again (fields.Bytes most) (values.Bytes bs) fits = from_good (fields.Bytes most) (values.Bytes bs) refl (bytes_good most bs fits.0 fits.1) (ap (λ x. values.Bytes x) (bytes_value_again bs fits.1))
again (fields.Name most) (values.Bytes name) fits = record { suit = refl; spelled = refl; ranged = le-leb (length name) most fits.few; value = refl }
again (fields.Text characters size) (values.Bytes text) fits = record { suit = refl; spelled = refl; ranged = text_good characters size text fits; value = refl }
again fields.Frequencies (values.Frequencies list) fits = from_good fields.Frequencies (values.Frequencies list) refl (frequencies_good list fits.0 fits.1 fits.2) (ap (λ x. values.Frequencies x) (channels_again list fits.0 fits.2))
again (fields.Choice set) (values.Byte k) fits =
    let is = found set k fits in
    record { suit = rw is refl; spelled = refl; ranged = refl; value = rw is refl }
again (fields.Fixed set place) (values.Byte k) fits = record { suit = same_bytes (get_or (names set) place []); spelled = refl; ranged = refl; value = ap (λ x. values.Byte x) (sym fits.0) }
again _ _ fits = absurd fits

pub all_suit_again : (fs : List LineField) (vs : List LineValue) → AllFit fs vs → all_suit fs (words_written fs vs) ≡ true
all_suit_again [] [] fits = refl
all_suit_again [] (v ∷ vs) fits = absurd fits
all_suit_again (f ∷ fs) [] fits = absurd fits
all_suit_again (f ∷ fs) (v ∷ vs) fits = rw ((again f v fits.0).suit) (all_suit_again fs vs fits.1)

pub spells_again : (fs : List LineField) (vs : List LineValue) → AllFit fs vs → spells fs (words_written fs vs) ≡ Ok vs
spells_again [] [] fits = refl
spells_again [] (v ∷ vs) fits = absurd fits
spells_again (f ∷ fs) [] fits = absurd fits
spells_again (f ∷ fs) (v ∷ vs) fits =
    let here = again f v fits.0 in
    let one : spells_one f (word_of f v) ≡ Ok v = rw (here.spelled, here.ranged, here.value) refl in
    rw (spells_cons f (word_of f v) fs (words_written fs vs), one, spells_again fs vs fits.1) refl
