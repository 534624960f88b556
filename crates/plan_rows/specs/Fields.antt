-- What each field asks of its word, what the word spells, and the word that a value is written as.
use Rattle.std.specs.Prelude.{ℕ, Bool, true, false, is_some, List, [], get_or, decimal, Result, Ok, Err, if◌then◌else◌, unwrap_or}
use Rattle.std.specs.Str.{bytes_eq}
use Rattle.plan_rows.specs.declared.field.LineField.{LineField}
use Rattle.plan_rows.specs.declared.field.LineField.TheVariants as fields
use Rattle.plan_rows.specs.declared.value.LineValue.{LineValue}
use Rattle.plan_rows.specs.declared.value.LineValue.TheVariants as values
use Rattle.plan_rows.specs.declared.fault.Wrong.{Wrong}
use Rattle.plan_rows.specs.declared.fault.Wrong.TheVariants.{Number, Range}
use Rattle.plan_rows.specs.Words.{WordCheck, value, number, bit, flag, bit_word, raw_kind, hex, byte_value, hex4_value, hex6_value, hex2, hex4, hex6, optional_byte, optional_byte_value, optional_byte_word, bytes, bytes_value, bytes_word, name, text}
use Rattle.plan_rows.specs.Choices.{names, place_from}
use Rattle.plan_rows.specs.Frequencies.{frequencies, channels, channels_word}
use Rattle.plan_rows.specs.Values.{byte_in, short_in, number_in, flag_in, optional_byte_in, bytes_in, frequencies_in}

-- whether the word can stand there in such a line
abbrev pub suits : LineField → List ℕ → Bool
suits (fields.Line keyword first last) word = false
suits (fields.Choice set) word = is_some (place_from 0 (names set) word)
suits (fields.Fixed set place) word = bytes_eq word (get_or (names set) place [])
suits _ word = true

-- nothing more is asked of a word
abbrev pub nothing : WordCheck
nothing = record { is_spelled = true; in_range = true }

-- what else is asked of it
abbrev pub check : LineField → List ℕ → WordCheck
check (fields.Line keyword first last) word = nothing
check (fields.Byte least greatest) word = number least greatest word
check (fields.Short least greatest) word = number least greatest word
check (fields.Long least greatest) word = number least greatest word
check fields.Bit word = bit word
check fields.RawKind word = raw_kind word
check fields.Hex2 word = hex 1 word
check fields.Hex4 word = hex 2 word
check fields.Hex6 word = hex 3 word
check fields.OptionalByte word = optional_byte word
check (fields.Bytes most) word = bytes most word
check (fields.Name most) word = name most word
check (fields.Text characters size) word = text characters size word
check fields.Frequencies word = frequencies word
check (fields.Choice set) word = nothing
check (fields.Fixed set place) word = nothing

-- what it spells
abbrev pub value_of : LineField → List ℕ → LineValue
value_of (fields.Line keyword first last) word = values.Byte 0
value_of (fields.Byte least greatest) word = values.Byte (value word)
value_of (fields.Short least greatest) word = values.Short (value word)
value_of (fields.Long least greatest) word = values.Long (value word)
value_of fields.Bit word = values.Flag (flag word)
value_of fields.RawKind word = values.Byte (value word)
value_of fields.Hex2 word = values.Byte (byte_value word)
value_of fields.Hex4 word = values.Short (hex4_value word)
value_of fields.Hex6 word = values.Long (hex6_value word)
value_of fields.OptionalByte word = values.OptionalByte (optional_byte_value word)
value_of (fields.Bytes most) word = values.Bytes (bytes_value word)
value_of (fields.Name most) word = values.Bytes word
value_of (fields.Text characters size) word = values.Bytes word
value_of fields.Frequencies word = values.Frequencies (channels word)
value_of (fields.Choice set) word = values.Byte (unwrap_or (place_from 0 (names set) word) 0)
value_of (fields.Fixed set place) word = values.Byte place

-- the faults of a word and of a line, in their order
abbrev pub verdict : {X : Type 0} → Bool → Bool → X → Result X Wrong
verdict spelled ranged x = if spelled then (if ranged then Ok x else Err Range) else Err Number

-- what a word that suits spells
abbrev pub spells_one : LineField → List ℕ → Result LineValue Wrong
spells_one f word = verdict (check f word).is_spelled (check f word).in_range (value_of f word)

-- the word that a value is written as
abbrev pub word_of : LineField → LineValue → List ℕ
word_of (fields.Line keyword first last) v = []
word_of (fields.Byte least greatest) v = decimal (number_in v)
word_of (fields.Short least greatest) v = decimal (number_in v)
word_of (fields.Long least greatest) v = decimal (number_in v)
word_of fields.Bit v = bit_word (flag_in v)
word_of fields.RawKind v = decimal (number_in v)
word_of fields.Hex2 v = hex2 (byte_in v)
word_of fields.Hex4 v = hex4 (short_in v)
word_of fields.Hex6 v = hex6 (number_in v)
word_of fields.OptionalByte v = optional_byte_word (optional_byte_in v)
word_of (fields.Bytes most) v = bytes_word (bytes_in v)
word_of (fields.Name most) v = bytes_in v
word_of (fields.Text characters size) v = bytes_in v
word_of fields.Frequencies v = channels_word (frequencies_in v)
word_of (fields.Choice set) v = get_or (names set) (byte_in v) []
word_of (fields.Fixed set place) v = get_or (names set) place []
