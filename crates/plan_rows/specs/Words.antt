-- Single words: what is asked of them, what they spell, and how a value is spelled.
use Rattle.std.specs.Prelude.{ℕ, ◌==◌, ◌&&◌, ◌||◌, nat_le, Bool, true, false, is_some, List, [], ◌∷◌, length, drop, Option, Some, None, if◌then◌else◌, unwrap_or, codes, slice_index}
use Rattle.std.specs.Int.{to_be_bytes, from_be_bytes, w16, w32}
use Rattle.std.specs.Str.{bytes_eq, chars}
use Rattle.std.specs.Str.Parse.{digits_value}
use Rattle.hex.specs.Hex.{encode_lower}
use Rattle.text_lines.specs.Numbers.{is_number}
use Rattle.text_lines.specs.Hex.{hex_of, bytes_of}

-- what is asked of a word: that it spells a number or bytes, and that these are in range
pub record WordCheck : Type 0 where
  pub is_spelled : Bool
  pub in_range : Bool

-- the number that a word spells
abbrev pub value : List ℕ → ℕ
value word = digits_value 10 word

-- a decimal number from the least to the greatest
abbrev pub number : ℕ → ℕ → List ℕ → WordCheck
number least greatest word = record { is_spelled = is_number word; in_range = nat_le least (value word) && nat_le (value word) greatest }

-- 0 or 1
abbrev pub bit : List ℕ → WordCheck
bit word = number 0 1 word

-- whether a word spells 1
abbrev pub flag : List ℕ → Bool
flag word = value word == 1

abbrev pub bit_word : Bool → List ℕ
bit_word false = codes "0"
bit_word true = codes "1"

-- the types that no line but a raw one gives
abbrev pub is_raw_kind : ℕ → Bool
is_raw_kind kind = kind == 2 || kind == 6 || kind == 7 || kind == 11 || kind == 13 || kind == 14 || kind == 15

-- the number of such a type
abbrev pub raw_kind : List ℕ → WordCheck
raw_kind word = record { is_spelled = is_number word; in_range = is_raw_kind (value word) }

-- two hex digits for each of so many bytes
abbrev pub hex : ℕ → List ℕ → WordCheck
hex n word = record { is_spelled = is_some (hex_of n word); in_range = true }

-- the bytes that a word spells, which are so many
abbrev pub hex_value : ℕ → List ℕ → List ℕ
hex_value n word = unwrap_or (hex_of n word) []

-- the number that a word of two hex digits spells, of four, and of six
abbrev pub byte_value : List ℕ → ℕ
byte_value word = slice_index (hex_value 1 word) 0

abbrev pub hex4_value : List ℕ → ℕ
hex4_value word = from_be_bytes w16 (hex_value 2 word)

abbrev pub hex6_value : List ℕ → ℕ
hex6_value word = from_be_bytes w32 (0 ∷ hex_value 3 word)

abbrev pub hex2 : ℕ → List ℕ
hex2 n = encode_lower (n ∷ [])

abbrev pub hex4 : ℕ → List ℕ
hex4 n = encode_lower (to_be_bytes w16 n)

-- the last three of a number's four bytes
abbrev pub hex6 : ℕ → List ℕ
hex6 n = encode_lower (drop 1 (to_be_bytes w32 n))

abbrev pub is_none_word : List ℕ → Bool
is_none_word word = bytes_eq word (codes "-")

-- a byte in two hex digits, or - for none
abbrev pub optional_byte : List ℕ → WordCheck
optional_byte word = record { is_spelled = is_none_word word || is_some (hex_of 1 word); in_range = true }

abbrev pub optional_byte_value : List ℕ → Option ℕ
optional_byte_value word = if is_none_word word then None else Some (byte_value word)

abbrev pub optional_byte_word : Option ℕ → List ℕ
optional_byte_word None = codes "-"
optional_byte_word (Some byte) = hex2 byte

-- the bytes of a word of hex digits, or of -, which stands for none
abbrev pub free_bytes : List ℕ → Option (List ℕ)
free_bytes word = if is_none_word word then Some [] else bytes_of word

abbrev pub bytes_value : List ℕ → List ℕ
bytes_value word = unwrap_or (free_bytes word) []

-- at most so many bytes in hex digits, or - for none
abbrev pub bytes : ℕ → List ℕ → WordCheck
bytes most word = record { is_spelled = is_some (free_bytes word); in_range = nat_le (length (bytes_value word)) most }

abbrev pub bytes_word : List ℕ → List ℕ
bytes_word [] = codes "-"
bytes_word (b ∷ bs) = encode_lower (b ∷ bs)

-- a word of at most so many bytes
abbrev pub name : ℕ → List ℕ → WordCheck
name most word = record { is_spelled = true; in_range = nat_le (length word) most }

-- a text of at least one character, and at most so many characters and so many bytes
abbrev pub text : ℕ → ℕ → List ℕ → WordCheck
text characters size bytes = record {
  is_spelled = true;
  in_range = nat_le 1 (length (chars bytes)) && nat_le (length (chars bytes)) characters && nat_le (length bytes) size;
}
