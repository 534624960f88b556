-- What the values of a line say, and the values of what is said.
use Rattle.std.specs.Prelude.{ℕ, ◌+◌, ◌==◌, nat_le, Bool, true, false, List, [], ◌∷◌, Result, Ok, Err, if◌then◌else◌, unwrap_or}
use Rattle.drm_fac.specs.declared.mode.Mode.{Mode}
use Rattle.drm_fac.specs.declared.mode.Mode.TheVariants.{A}
use Rattle.drm_fac.specs.Mode.{mode_of_code, mode_code}
use Rattle.dcp_pft.specs.declared.carry.Carry.TheVariants.{Plain, Pft}
use Rattle.drm_schedule.specs.declared.invalid.Reason.{Reason}
use Rattle.drm_schedule.specs.declared.invalid.Reason.TheVariants as reasons
use Rattle.drm_schedule.specs.declared.stream.Content.{Content}
use Rattle.drm_schedule.specs.declared.stream.Content.TheVariants.{Fill, File}
use Rattle.drm_sdc.specs.declared.body.Body.{Body}
use Rattle.drm_sdc.specs.declared.body.Body.TheVariants as bodies
use Rattle.drm_sdc.specs.declared.body.AppMode.TheVariants.{Sync, Packet}
use Rattle.plan_rows.specs.declared.fault.Wrong.{Wrong}
use Rattle.plan_rows.specs.declared.fault.Wrong.TheVariants.{Word, Number, Range}
use Rattle.plan_rows.specs.declared.keyword.Keyword.{Keyword}
use Rattle.plan_rows.specs.declared.keyword.Keyword.TheVariants as keywords
use Rattle.plan_grammar.specs.declared.table.TheConstants.{TABLE}
use Rattle.plan_rows.specs.declared.value.LineValue.{LineValue}
use Rattle.plan_rows.specs.declared.value.LineValue.TheVariants.{Byte, Short, Long, Flag, OptionalByte, Bytes, Frequencies}
use Rattle.plan_rows.specs.Tables.{line_reads}
use Rattle.plan_rows.specs.Values.{byte_at, short_at, number_at, flag_at, bytes_at, optional_byte_at, frequencies_at}
use Rattle.plan_grammar.specs.declared.version.Version.{Version}
use Rattle.plan_grammar.specs.declared.version.Version.TheVariants.{One, Two}
use Rattle.plan_grammar.specs.declared.line.Line.{Line}
use Rattle.plan_grammar.specs.declared.line.Line.TheVariants as lines

abbrev pub version_at : ℕ → Version
version_at place = if place == 0 then One else Two

abbrev pub says_carry : List LineValue → Line
says_carry v = if byte_at v 0 == 0 then lines.Carry Plain else lines.Carry (Pft (byte_at v 1) (short_at v 2))

abbrev pub mode_at : ℕ → Mode
mode_at code = unwrap_or (mode_of_code code) A

abbrev pub says_service : List LineValue → Line
says_service v = lines.Service (record {
  id = number_at v 0;
  short = byte_at v 1;
  ca = flag_at v 2;
  language = byte_at v 3;
  is_data = byte_at v 4 == 1;
  descriptor = byte_at v 5;
  data_ca = flag_at v 6;
  last = 0;
})

abbrev pub says_stream : List LineValue → Line
says_stream v =
    if byte_at v 2 == 0 then lines.Stream (record { a = short_at v 0; b = short_at v 1; content = Fill (byte_at v 3) })
    else lines.Stream (record { a = short_at v 0; b = short_at v 1; content = File (bytes_at v 3) [] })

abbrev pub says_clock : List LineValue → Line
says_clock v = lines.Clock (record { mjd = number_at v 0; hours = byte_at v 1; minutes = byte_at v 2 })

-- an entity of the current configuration
abbrev pub current : Body → Line
current body = lines.Entity (record { version = false; body = body })

abbrev pub says_label : List LineValue → Line
says_label v = current (bodies.Label (byte_at v 0) 0 (bytes_at v 1))

abbrev pub says_freq : List LineValue → Line
says_freq v = current (bodies.Freq (flag_at v 0) (flag_at v 1) (optional_byte_at v 2) (optional_byte_at v 3) (frequencies_at v 4))

abbrev pub says_when : List LineValue → Line
says_when v = current (bodies.When (byte_at v 0) (byte_at v 1) (short_at v 2) (short_at v 3))

abbrev pub says_app : List LineValue → Line
says_app v =
    if byte_at v 2 == 0 then current (bodies.App (byte_at v 0) (byte_at v 1) (Sync 0) (flag_at v 3) (byte_at v 4) (bytes_at v 5))
    else current (bodies.App (byte_at v 0) (byte_at v 1) (Packet (flag_at v 3) (byte_at v 4) (byte_at v 7)) (flag_at v 5) (byte_at v 6) (bytes_at v 8))

-- a line without its last word has no bytes there
abbrev pub says_audio : List LineValue → Line
says_audio v =
    current (bodies.Audio (byte_at v 0) (byte_at v 1) (byte_at v 2) (flag_at v 3) (byte_at v 4) (byte_at v 5) (flag_at v 6) (flag_at v 7) (byte_at v 8) false (bytes_at v 9))

abbrev pub says_language : List LineValue → Line
says_language v = current (bodies.Language (byte_at v 0) 0 (number_at v 1) (short_at v 2))

abbrev pub says_raw : List LineValue → Line
says_raw v = lines.Entity (record { version = flag_at v 1; body = bodies.Raw (byte_at v 0) (byte_at v 2) (bytes_at v 3) })

-- what a line of this keyword and these values says; a keyword of none of the others gives an entity as its bytes
abbrev pub says : Keyword → List LineValue → Line
says keywords.Drmplan v = lines.Version (version_at (byte_at v 0))
says keywords.Carry v = says_carry v
says keywords.First v = lines.First (short_at v 0) (number_at v 1)
says keywords.Length v = lines.Length (number_at v 0)
says keywords.Config v = lines.Config (number_at v 0) (byte_at v 1)
says keywords.Mode v = lines.Mode (mode_at (byte_at v 0))
says keywords.Occupancy v = lines.Occupancy (byte_at v 0)
says keywords.Depth v = lines.Depth (byte_at v 0 == 1)
says keywords.Msc v = lines.Msc (byte_at v 0)
says keywords.Sdc v = lines.Sdc (flag_at v 0)
says keywords.Protection v = lines.Protection (byte_at v 0) (byte_at v 1)
says keywords.Room v = lines.Room (short_at v 0)
says keywords.Service v = says_service v
says keywords.Stream v = says_stream v
says keywords.Clock v = says_clock v
says keywords.Block v = lines.Block (number_at v 0)
says keywords.Label v = says_label v
says keywords.Freq v = says_freq v
says keywords.When v = says_when v
says keywords.App v = says_app v
says keywords.Audio v = says_audio v
says keywords.Language v = says_language v
says _ v = says_raw v

-- what is asked of the values of a line together: not both parts of a stream are empty
abbrev pub allowed : Keyword → List LineValue → Bool
allowed keywords.Stream v = nat_le 1 (short_at v 0 + short_at v 1)
allowed _ v = true

abbrev pub reason_of : Wrong → Reason
reason_of Word = reasons.Word
reason_of Number = reasons.Number
reason_of Range = reasons.Range

abbrev pub said_by : Keyword → Result (List LineValue) Wrong → Result Line Reason
said_by keyword (Ok v) = if allowed keyword v then Ok (says keyword v) else Err reasons.Range
said_by keyword (Err wrong) = Err (reason_of wrong)

-- the number by which the rows of the table name a version
abbrev pub number_of : Version → ℕ
number_of One = 1
number_of Two = 2

-- what a line says in a text of this version, by the whole line and the words after the first
unfoldable pub line_said : Version → Keyword → List ℕ → List (List ℕ) → Result Line Reason
line_said version keyword line words = said_by keyword (line_reads TABLE (number_of version) keyword line words)

-- ---- the values

abbrev pub version_value : Version → LineValue
version_value One = Byte 0
version_value Two = Byte 1

-- the place of the second of two words, where it is that one
abbrev pub place : Bool → LineValue
place false = Byte 0
place true = Byte 1

-- config bytes are a word only where there are any
abbrev pub config_values : List ℕ → List LineValue
config_values [] = []
config_values (b ∷ bs) = Bytes (b ∷ bs) ∷ []

abbrev pub stream_values : ℕ → ℕ → Content → List LineValue
stream_values a b (Fill byte) = Short a ∷ Short b ∷ Byte 0 ∷ Byte byte ∷ []
stream_values a b (File name bytes) = Short a ∷ Short b ∷ Byte 1 ∷ Bytes name ∷ []

abbrev pub body_values : Bool → Body → List LineValue
body_values version (bodies.Label short spare text) = Byte short ∷ Bytes text ∷ []
body_values version (bodies.Freq sync layer restriction region list) = Flag sync ∷ Flag layer ∷ OptionalByte restriction ∷ OptionalByte region ∷ Frequencies list ∷ []
body_values version (bodies.When id day start duration) = Byte id ∷ Byte day ∷ Short start ∷ Short duration ∷ []
body_values version (bodies.App short stream (Sync spare) enhancement domain bytes) = Byte short ∷ Byte stream ∷ Byte 0 ∷ Flag enhancement ∷ Byte domain ∷ Bytes bytes ∷ []
body_values version (bodies.App short stream (Packet unit pid length) enhancement domain bytes) =
    Byte short ∷ Byte stream ∷ Byte 1 ∷ Flag unit ∷ Byte pid ∷ Flag enhancement ∷ Byte domain ∷ Byte length ∷ Bytes bytes ∷ []
body_values version (bodies.Audio short stream coding sbr mode rate text enhancement coder spare config) =
    Byte short ∷ Byte stream ∷ Byte coding ∷ Flag sbr ∷ Byte mode ∷ Byte rate ∷ Flag text ∷ Flag enhancement ∷ Byte coder ∷ config_values config
body_values version (bodies.Language short spare language country) = Byte short ∷ Long language ∷ Short country ∷ []
body_values version (bodies.Raw kind nibble bytes) = Byte kind ∷ Flag version ∷ Byte nibble ∷ Bytes bytes ∷ []
body_values version _ = []

-- the values of a line that says this
abbrev pub values_of : Line → List LineValue
values_of (lines.Version version) = version_value version ∷ []
values_of (lines.Carry Plain) = Byte 0 ∷ []
values_of (lines.Carry (Pft m mtu)) = Byte 1 ∷ Byte m ∷ Short mtu ∷ []
values_of (lines.First seq dlfc) = Short seq ∷ Long dlfc ∷ []
values_of (lines.Length n) = Long n ∷ []
values_of (lines.Config start countdown) = Long start ∷ Byte countdown ∷ []
values_of (lines.Mode mode) = Byte (mode_code mode) ∷ []
values_of (lines.Occupancy n) = Byte n ∷ []
values_of (lines.Depth short) = place short ∷ []
values_of (lines.Msc n) = Byte n ∷ []
values_of (lines.Sdc qam4) = Flag qam4 ∷ []
values_of (lines.Protection a b) = Byte a ∷ Byte b ∷ []
values_of (lines.Room n) = Short n ∷ []
values_of (lines.Service s) = Long s.id ∷ Byte s.short ∷ Flag s.ca ∷ Byte s.language ∷ place s.is_data ∷ Byte s.descriptor ∷ Flag s.data_ca ∷ []
values_of (lines.Stream s) = stream_values s.a s.b s.content
values_of (lines.Clock c) = Long c.mjd ∷ Byte c.hours ∷ Byte c.minutes ∷ []
values_of (lines.Block from) = Long from ∷ []
values_of (lines.Entity e) = body_values e.version e.body
