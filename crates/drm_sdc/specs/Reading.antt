-- What stands in the bits of an entity, whatever they are: the numbers of its header and of each body.
use Rattle.std.specs.Prelude.{ℕ, zero, suc, ◌≡◌, ◌+◌, ◌-◌, ◌/◌, ◌%◌, ◌==◌, ◌&&◌, ◌||◌, nat_le, Bool, true, false, if◌then◌else◌, List, [], ◌∷◌, length, drop, Option, None, Some, IsUtf8}
use Rattle.std.specs.Int.{from_bool}
use Rattle.drm_bits.specs.Bits.{bits_of, front, bit}
use Rattle.drm_bits.specs.Description.{description_from}
use Rattle.drm_sdc.specs.declared.channels.Channel15.{Channel15}
use Rattle.drm_sdc.specs.declared.entity.Entity.{Entity}
use Rattle.drm_sdc.specs.declared.body.AppMode.TheVariants.{Sync, Packet}
use Rattle.drm_sdc.specs.declared.body.Body.{Body}
use Rattle.drm_sdc.specs.declared.body.Body.TheVariants.{Mux, Label, Freq, When, App, Time, Audio, Next, Language, Raw}
use Rattle.drm_sdc.specs.Bodies.{is_typed}

-- A body is in the bits from its first four on; its bytes are those behind the four.
abbrev pub mux_from : List Bool → List ℕ → Body
mux_from bits bytes = Mux (description_from (length bytes / 3) bits)

abbrev pub label_from : List Bool → List ℕ → Body
label_from bits bytes = Label (front 2 bits) (front 2 (drop 2 bits)) bytes

abbrev pub optional_from : Bool → List Bool → Option ℕ
optional_from true bits = Some (front 8 bits)
optional_from false bits = None

abbrev pub behind : Bool → List Bool → List Bool
behind true bits = drop 8 bits
behind false bits = bits

abbrev pub channels_from : ℕ → List Bool → List Channel15
channels_from zero bits = []
channels_from (suc n) bits = record { first = bit bits; number = front 15 (drop 1 bits) } ∷ channels_from n (drop 15 (drop 1 bits))

-- whether a body of type 3 has the two bytes that may be absent, and how many it has
abbrev pub has_restriction : List Bool → Bool
has_restriction bits = bit (drop 1 (drop 1 bits))

abbrev pub has_region : List Bool → Bool
has_region bits = bit (drop 1 (drop 1 (drop 1 bits)))

abbrev pub optional_count : List Bool → ℕ
optional_count bits = from_bool (has_restriction bits) + from_bool (has_region bits)

abbrev pub freq_from : List Bool → List ℕ → Body
freq_from bits bytes =
    let behind_flags : List Bool = drop 1 (drop 1 (drop 1 (drop 1 bits))) in
    let behind_restriction : List Bool = behind (has_restriction bits) behind_flags in
    Freq (bit bits) (bit (drop 1 bits)) (optional_from (has_restriction bits) behind_flags) (optional_from (has_region bits) behind_restriction)
    (channels_from ((length bytes - optional_count bits) / 2) (behind (has_region bits) behind_restriction))

abbrev pub when_from : List Bool → Body
when_from bits = When (front 4 bits) (front 7 (drop 4 bits)) (front 11 (drop 7 (drop 4 bits))) (front 14 (drop 11 (drop 7 (drop 4 bits))))

-- whether a body of type 5 is in packet mode
abbrev pub in_packets : List Bool → Bool
in_packets bits = bit (drop 2 (drop 2 bits))

-- these two are in the bits behind the mode
abbrev pub sync_from : ℕ → ℕ → List Bool → List ℕ → Body
sync_from short stream bits bytes =
    App short stream (Sync (front 3 bits)) (bit (drop 3 bits)) (front 3 (drop 1 (drop 3 bits))) (drop 1 bytes)

abbrev pub packet_from : ℕ → ℕ → List Bool → List ℕ → Body
packet_from short stream bits bytes =
    let behind_mode : List Bool = drop 2 (drop 1 bits) in
    App short stream (Packet (bit bits) (front 2 (drop 1 bits)) (front 8 (drop 3 (drop 1 behind_mode)))) (bit behind_mode) (front 3 (drop 1 behind_mode)) (drop 2 bytes)

abbrev pub app_from : List Bool → List ℕ → Body
app_from bits bytes =
    if in_packets bits then packet_from (front 2 bits) (front 2 (drop 2 bits)) (drop 1 (drop 2 (drop 2 bits))) bytes else sync_from (front 2 bits) (front 2 (drop 2 bits)) (drop 1 (drop 2 (drop 2 bits))) bytes

abbrev pub time_from : List Bool → List ℕ → Body
time_from bits bytes =
    Time (front 17 bits) (front 5 (drop 17 bits)) (front 6 (drop 5 (drop 17 bits))) (optional_from (length bytes == 4) (drop 6 (drop 5 (drop 17 bits))))

-- the second half of an audio entity's numbers stands behind the first
abbrev pub audio_middle : List Bool → List Bool
audio_middle bits = drop 2 (drop 1 (drop 2 (drop 2 (drop 2 bits))))

abbrev pub audio_from : List Bool → List ℕ → Body
audio_from bits bytes =
    let middle : List Bool = audio_middle bits in
    Audio (front 2 bits) (front 2 (drop 2 bits)) (front 2 (drop 2 (drop 2 bits))) (bit (drop 2 (drop 2 (drop 2 bits)))) (front 2 (drop 1 (drop 2 (drop 2 (drop 2 bits)))))
    (front 3 middle) (bit (drop 3 middle)) (bit (drop 1 (drop 3 middle))) (front 5 (drop 1 (drop 1 (drop 3 middle)))) (bit (drop 5 (drop 1 (drop 1 (drop 3 middle))))) (drop 2 bytes)

abbrev pub next_from : List Bool → Body
next_from bits =
    let behind_depth : List Bool = drop 1 (drop 4 (drop 2 (drop 1 bits))) in
    Next (bit bits) (front 2 (drop 1 bits)) (front 4 (drop 2 (drop 1 bits))) (bit (drop 4 (drop 2 (drop 1 bits))))
    (front 2 behind_depth) (bit (drop 2 behind_depth)) (front 4 (drop 1 (drop 2 behind_depth))) (front 5 (drop 4 (drop 1 (drop 2 behind_depth))))

abbrev pub language_from : List Bool → Body
language_from bits = Language (front 2 bits) (front 2 (drop 2 bits)) (front 24 (drop 2 (drop 2 bits))) (front 16 (drop 24 (drop 2 (drop 2 bits))))

abbrev pub raw_from : ℕ → List Bool → List ℕ → Body
raw_from kind bits bytes = Raw kind (front 4 bits) bytes

abbrev pub typed_from : ℕ → List Bool → List ℕ → Body
typed_from kind bits bytes =
    if kind == 0 then mux_from bits bytes else (
    if kind == 1 then label_from bits bytes else (
    if kind == 3 then freq_from bits bytes else (
    if kind == 4 then when_from bits else (
    if kind == 5 then app_from bits bytes else (
    if kind == 8 then time_from bits bytes else (
    if kind == 9 then audio_from bits bytes else (
    if kind == 10 then next_from bits else language_from bits)))))))

abbrev pub body_from : ℕ → List Bool → List ℕ → Body
body_from kind bits bytes = if is_typed kind then typed_from kind bits bytes else raw_from kind bits bytes

-- The lengths that a body of each type can have, in bytes behind its four bits.
abbrev pub has_body_length : ℕ → List Bool → ℕ → Bool
has_body_length kind bits len =
    if kind == 0 then len % 3 == 0 && nat_le len 12 else (
    if kind == 3 then nat_le (optional_count bits) len && (len - optional_count bits) % 2 == 0 else (
    if kind == 4 then len == 4 else (
    if kind == 5 then nat_le 1 len && nat_le (1 + from_bool (in_packets bits)) len else (
    if kind == 8 then len == 3 || len == 4 else (
    if kind == 9 then nat_le 2 len else (
    if kind == 10 then len == 2 else (
    if kind == 12 then len == 5 else true)))))))

-- the header of an entity, and what is behind it
abbrev pub described_length : List ℕ → ℕ
described_length bytes = front 7 (bits_of bytes)

abbrev pub described_kind : List ℕ → ℕ
described_kind bytes = front 4 (drop 1 (drop 7 (bits_of bytes)))

abbrev pub body_bits : List ℕ → List Bool
body_bits bytes = drop 4 (drop 1 (drop 7 (bits_of bytes)))

abbrev pub entity_from : List ℕ → Entity
entity_from bytes =
    record { version = bit (drop 7 (bits_of bytes)); body = body_from (described_kind bytes) (body_bits bytes) (drop 2 bytes) }

-- The bytes are as long as their header says, their body has a length of its type, and a label is UTF-8.
pub record IsWellFormedEntity (bytes : List ℕ) : Type 0 where
  pub whole : length bytes ≡ 2 + described_length bytes
  pub body : has_body_length (described_kind bytes) (body_bits bytes) (described_length bytes) ≡ true
  pub label : described_kind bytes ≡ 1 → IsUtf8 (drop 2 bytes)
