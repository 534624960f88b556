-- What a word spelled, and what stands at a place of a line: 0 or nothing where there is none of that type.
use Rattle.std.specs.Prelude.{ℕ, Bool, false, List, [], get_or, Option, None}
use Rattle.drm_sdc.specs.declared.channels.Channel15.{Channel15}
use Rattle.plan_rows.specs.declared.value.LineValue.{LineValue}
use Rattle.plan_rows.specs.declared.value.LineValue.TheVariants as values

-- a number of any width
abbrev pub number_in : LineValue → ℕ
number_in (values.Byte n) = n
number_in (values.Short n) = n
number_in (values.Long n) = n
number_in _ = 0

abbrev pub byte_in : LineValue → ℕ
byte_in (values.Byte n) = n
byte_in _ = 0

abbrev pub short_in : LineValue → ℕ
short_in (values.Short n) = n
short_in _ = 0

abbrev pub flag_in : LineValue → Bool
flag_in (values.Flag b) = b
flag_in _ = false

abbrev pub optional_byte_in : LineValue → Option ℕ
optional_byte_in (values.OptionalByte byte) = byte
optional_byte_in _ = None

abbrev pub bytes_in : LineValue → List ℕ
bytes_in (values.Bytes bytes) = bytes
bytes_in _ = []

abbrev pub frequencies_in : LineValue → List Channel15
frequencies_in (values.Frequencies list) = list
frequencies_in _ = []

abbrev pub value_at : List LineValue → ℕ → LineValue
value_at vs k = get_or vs k (values.Byte 0)

abbrev pub number_at : List LineValue → ℕ → ℕ
number_at vs k = number_in (value_at vs k)

abbrev pub byte_at : List LineValue → ℕ → ℕ
byte_at vs k = byte_in (value_at vs k)

abbrev pub short_at : List LineValue → ℕ → ℕ
short_at vs k = short_in (value_at vs k)

abbrev pub flag_at : List LineValue → ℕ → Bool
flag_at vs k = flag_in (value_at vs k)

abbrev pub optional_byte_at : List LineValue → ℕ → Option ℕ
optional_byte_at vs k = optional_byte_in (value_at vs k)

abbrev pub bytes_at : List LineValue → ℕ → List ℕ
bytes_at vs k = bytes_in (value_at vs k)

abbrev pub frequencies_at : List LineValue → ℕ → List Channel15
frequencies_at vs k = frequencies_in (value_at vs k)
