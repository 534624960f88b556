-- The bodies of SDC entities, by their tables (ES 201 980, "Service Description Channel"): four bits, and then bytes.
use Rattle.std.specs.Prelude.{ℕ, ◌≡◌, ◌+◌, ◌*◌, ◌==◌, ◌||◌, Bool, true, false, List, [], ◌∷◌, ◌++◌, length, Option, None, Some, is_some, IsUtf8}
use Rattle.drm_bits.specs.Fields.{BitField, field, flag}
use Rattle.drm_bits.specs.Description.{IsDescription, description_fields}
use Rattle.drm_sdc.specs.declared.channels.Channel15.{Channel15}
use Rattle.drm_sdc.specs.declared.body.AppMode.{AppMode}
use Rattle.drm_sdc.specs.declared.body.AppMode.TheVariants.{Sync, Packet}
use Rattle.drm_sdc.specs.declared.body.Body.{Body}
use Rattle.drm_sdc.specs.declared.body.Body.TheVariants.{Mux, Label, Freq, When, App, Time, Audio, Next, Language, Raw}

-- bytes, each in 8 bits
abbrev pub octets : List ℕ → List BitField
octets [] = []
octets (b ∷ bytes) = field 8 b ∷ octets bytes

-- a byte that may be absent
abbrev pub optional : Option ℕ → List BitField
optional None = []
optional (Some n) = field 8 n ∷ []

-- a first bit and a number of each frequency
abbrev pub channel_fields : List Channel15 → List BitField
channel_fields [] = []
channel_fields (c ∷ channels) = flag c.first ∷ field 15 c.number ∷ channel_fields channels

-- what an application says of its mode: a flag and three bits, and later a length in packet mode
abbrev pub mode_fields : AppMode → List BitField
mode_fields (Sync spare) = flag false ∷ field 3 spare ∷ []
mode_fields (Packet unit pid length) = flag true ∷ flag unit ∷ field 2 pid ∷ []

abbrev pub mode_length : AppMode → List BitField
mode_length (Sync spare) = []
mode_length (Packet unit pid length) = field 8 length ∷ []

abbrev pub body_fields : Body → List BitField
body_fields (Mux desc) = description_fields desc
body_fields (Label short spare text) = field 2 short ∷ field 2 spare ∷ octets text
body_fields (Freq sync layer restriction region list) =
    flag sync ∷ flag layer ∷ flag (is_some restriction) ∷ flag (is_some region) ∷ optional restriction ++ (optional region ++ channel_fields list)
body_fields (When id day start duration) = field 4 id ∷ field 7 day ∷ field 11 start ∷ field 14 duration ∷ []
body_fields (App short stream packet enhancement domain bytes) =
    field 2 short ∷ field 2 stream ∷ mode_fields packet ++ (flag enhancement ∷ field 3 domain ∷ mode_length packet ++ octets bytes)
body_fields (Time mjd hours minutes extra) = field 17 mjd ∷ field 5 hours ∷ field 6 minutes ∷ optional extra
body_fields (Audio short stream coding sbr mode rate text enhancement coder spare config) =
    field 2 short ∷ field 2 stream ∷ field 2 coding ∷ flag sbr ∷ field 2 mode ∷ field 3 rate ∷ flag text ∷ flag enhancement
    ∷ field 5 coder ∷ flag spare ∷ octets config
body_fields (Next enhancement mode occupancy short_depth msc qam4 services last) =
    flag enhancement ∷ field 2 mode ∷ field 4 occupancy ∷ flag short_depth ∷ field 2 msc ∷ flag qam4 ∷ field 4 services
    ∷ field 5 last ∷ []
body_fields (Language short spare language country) = field 2 short ∷ field 2 spare ∷ field 24 language ∷ field 16 country ∷ []
body_fields (Raw kind nibble bytes) = field 4 nibble ∷ octets bytes

-- the type of a body
abbrev pub kind_of : Body → ℕ
kind_of (Mux desc) = 0
kind_of (Label short spare text) = 1
kind_of (Freq sync layer restriction region list) = 3
kind_of (When id day start duration) = 4
kind_of (App short stream packet enhancement domain bytes) = 5
kind_of (Time mjd hours minutes extra) = 8
kind_of (Audio short stream coding sbr mode rate text enhancement coder spare config) = 9
kind_of (Next enhancement mode occupancy short_depth msc qam4 services last) = 10
kind_of (Language short spare language country) = 12
kind_of (Raw kind nibble bytes) = kind

-- the bytes behind the four bits
abbrev pub count : Option ℕ → ℕ
count None = 0
count (Some n) = 1

abbrev pub mode_size : AppMode → ℕ
mode_size (Sync spare) = 1
mode_size (Packet unit pid length) = 2

abbrev pub body_length : Body → ℕ
body_length (Mux desc) = 3 * desc.count
body_length (Label short spare text) = length text
body_length (Freq sync layer restriction region list) = count restriction + count region + 2 * length list
body_length (When id day start duration) = 4
body_length (App short stream packet enhancement domain bytes) = mode_size packet + length bytes
body_length (Time mjd hours minutes extra) = 3 + count extra
body_length (Audio short stream coding sbr mode rate text enhancement coder spare config) = 2 + length config
body_length (Next enhancement mode occupancy short_depth msc qam4 services last) = 2
body_length (Language short spare language country) = 5
body_length (Raw kind nibble bytes) = length bytes

-- the types that have a table of their own
abbrev pub is_typed : ℕ → Bool
is_typed k = k == 0 || k == 1 || k == 3 || k == 4 || k == 5 || k == 8 || k == 9 || k == 10 || k == 12

-- what a body is beside its fields
abbrev pub IsBody : Body → Type 0
IsBody (Mux desc) = IsDescription desc
IsBody (Label short spare text) = IsUtf8 text
IsBody (Freq sync layer restriction region list) = Unit {0}
IsBody (When id day start duration) = Unit {0}
IsBody (App short stream packet enhancement domain bytes) = Unit {0}
IsBody (Time mjd hours minutes extra) = Unit {0}
IsBody (Audio short stream coding sbr mode rate text enhancement coder spare config) = Unit {0}
IsBody (Next enhancement mode occupancy short_depth msc qam4 services last) = Unit {0}
IsBody (Language short spare language country) = Unit {0}
IsBody (Raw kind nibble bytes) = is_typed kind ≡ false
