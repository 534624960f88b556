-- TAG items, and payloads of them (TS 102 821).
use Rattle.std.specs.Prelude.{ℕ, ◌≡◌, ◌+◌, ◌/◌, ◌^◌, ◌<◌, Bool, false, List, [], ◌∷◌, ◌++◌, length, replicate}
use Rattle.std.specs.Int.{w32, to_be_bytes}
use Rattle.drm_bits.specs.Bits.{bits_of}

-- a TAG item: its name, and the bits of its value
pub record TagItem : Type 0 where
  pub name : List ℕ
  pub value : List Bool

-- how many whole bytes the value's bits take
abbrev pub bytes_for : ℕ → ℕ
bytes_for bits = (bits + 7) / 8

-- the name, then the number of the value's bits in 32 bits
abbrev pub head : List ℕ → ℕ → List ℕ
head name bits = name ++ to_be_bytes w32 bits

-- the bytes are this head and what stands behind it
pub record HasHead (bytes name : List ℕ) (bits : ℕ) (behind : List ℕ) : Type 0 where
  pub four : length name ≡ 4
  pub fits : bits < 2 ^ 32
  pub stands : bytes ≡ head name bits ++ behind

-- the bytes are the head of the item, then its value and fewer than eight padding bits, in whole bytes
pub record IsPadded (item : TagItem) (padding : List Bool) (bytes : List ℕ) : Type 0 where
  pub name : length item.name ≡ 4
  pub bits : length item.value < 2 ^ 32
  pub few : length padding < 8
  pub behind : List ℕ
  pub value : bits_of behind ≡ item.value ++ padding
  pub spelled : bytes ≡ head item.name (length item.value) ++ behind

-- a spelling of the item: any padding bits may stand behind the value
abbrev pub IsSpelling : TagItem → List ℕ → Type 0
IsSpelling item bytes = (padding : List Bool) × IsPadded item padding bytes

-- the spelling that is written: each padding bit is 0
abbrev pub IsWrittenItem : TagItem → List ℕ → Type 0
IsWrittenItem item bytes = (n : ℕ) × IsPadded item (replicate n false) bytes

-- a payload: spellings of the items one after another, then fewer than eight bytes of any content
abbrev pub IsPayload : List TagItem → List ℕ → Type 0
IsPayload [] bytes = length bytes < 8
IsPayload (item ∷ items) bytes = (spelling : List ℕ) × (rest : List ℕ) × (bytes ≡ spelling ++ rest) × IsSpelling item spelling × IsPayload items rest

-- the item that begins here goes past the end: fewer bytes stand behind its head than its value takes
pub record IsItemCut (bytes : List ℕ) : Type 0 where
  pub name : List ℕ
  pub bits : ℕ
  pub behind : List ℕ
  pub begins : HasHead bytes name bits behind
  pub short : length behind < bytes_for bits
