-- Words that are bytes, in two hex digits each and in either case.
use Rattle.std.specs.Prelude.{ℕ, List, Option}
use Rattle.std.specs.Result.{result_ok}
use Rattle.hex.specs.Hex.{decode_of, decode_sized}

-- so many bytes that a word spells
abbrev pub hex_of : ℕ → List ℕ → Option (List ℕ)
hex_of n word = result_ok (decode_sized word n)

-- the bytes that a word spells, however many
abbrev pub bytes_of : List ℕ → Option (List ℕ)
bytes_of word = result_ok (decode_of word)
