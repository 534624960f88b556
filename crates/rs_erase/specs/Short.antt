-- Chunks of few bytes, found by known bytes of their code words.
use Rattle.std.specs.Prelude.{ℕ, zero, suc, ◌≡◌, ◌+◌, ◌-◌, ◌*◌, ◌<◌, ◌≤◌, nat_lt, if◌then◌else◌, List, ◌++◌, length, bit_xor, slice_index}
use Rattle.gf_field.specs.Field.{times}
use Rattle.rs_erase.specs.Code.{IsCodeWord, word_of}

-- places of a chunk of k bytes with its parity, and k is few
pub record AreShortPlaces (k : ℕ) (places : List ℕ) : Type 0 where
  pub few : k ≤ 15
  pub within : (i : ℕ) → i < length places → slice_index places i < k + 48

-- With a parity the chunk makes a code word, and both have these bytes at the known places.
pub record HasBytes (chunk known bytes : List ℕ) : Type 0 where
  pub parity : List ℕ
  pub code_word : IsCodeWord (word_of chunk parity)
  pub each : (i : ℕ) → i < length known → slice_index (chunk ++ parity) (slice_index known i) ≡ slice_index bytes (slice_index known i)

-- the p-th symbol of what remains of the first n bytes, each of which is multiplied by its row of 48 symbols
unfoldable pub symbol_sum : List ℕ → List ℕ → ℕ → ℕ → ℕ
symbol_sum rows chunk p zero = 0
symbol_sum rows chunk p (suc n) = bit_xor (symbol_sum rows chunk p n) (times (slice_index chunk n) (slice_index rows (48 * n + p)))

-- the byte at a place of the chunk of k bytes with its parity
abbrev pub coded_byte : List ℕ → List ℕ → ℕ → ℕ → ℕ
coded_byte rows chunk k place = if nat_lt place k then slice_index chunk place else symbol_sum rows chunk (place - k) k
