-- The request of a command with its plain words and options, as a function.
use Rattle.std.specs.Prelude.{ℕ, ◌==◌, ◌&&◌, Bool, true, false, ◌||◌, is_none, List, [], ◌∷◌, length, codes, Option, Some, None, option_and_then, option_map, if◌then◌else◌}
use Rattle.std.specs.Str.{bytes_eq}
use Rattle.drm_links.specs.declared.dock.Address.{Address}
use Rattle.drm_words.specs.declared.request.Request.{Request}
use Rattle.drm_words.specs.declared.request.Request.TheVariants.{Fac, Check, Capacity, Agree, Serve, Receive, Count, Air, Show, Convert, Exercise, Gate, Pack, Unpack, Texts}
use Rattle.cli_syntax.specs.Reading.{within}
use Rattle.cli_syntax.specs.Addressing.{◌>>=◌, address_of, addresses_of, carry_of}
use Rattle.drm_words.specs.declared.options.PacketOptions.{PacketOptions}
use Rattle.drm_words.specs.declared.options.ReadingOptions.{ReadingOptions}
use Rattle.drm_schedule.specs.declared.live.Live.{Live}
use Rattle.drm_schedule.specs.Live.{none}
use Rattle.cli_syntax.specs.Streams.{live_of}
use Rattle.drm_words.specs.Table.{CommandOptions, value_of, serve_names, packet_names, reading_names}

abbrev pub is_one_of : List (List ℕ) → List ℕ → Bool
is_one_of [] name = false
is_one_of (known ∷ others) name = bytes_eq name known || is_one_of others name

unfoldable pub are_of : List (List ℕ) → CommandOptions → Bool
are_of names [] = true
are_of names (option ∷ others) = is_one_of names option.0 && is_none (value_of option.0 others) && are_of names others

abbrev pub number_or : ℕ → ℕ → ℕ → Option (List ℕ) → Option ℕ
number_or default least greatest None = Some default
number_or default least greatest (Some text) = within least greatest text

abbrev pub number_or_none : ℕ → ℕ → Option (List ℕ) → Option (Option ℕ)
number_or_none least greatest None = Some None
number_or_none least greatest (Some text) = option_map Some (within least greatest text)

abbrev pub addresses_or_empty : Option (List ℕ) → Option (List Address)
addresses_or_empty None = Some []
addresses_or_empty (Some text) = addresses_of text

-- what each option tells
unfoldable pub window_of : CommandOptions → Option ℕ
window_of options = number_or 8 1 64 (value_of (codes "window") options)

unfoldable pub reach_of : CommandOptions → Option ℕ
reach_of options = number_or 32767 1 32767 (value_of (codes "reach") options)

unfoldable pub first_of : CommandOptions → Option (Option ℕ)
first_of options = number_or_none 0 65535 (value_of (codes "first") options)

unfoldable pub frames_of : CommandOptions → Option (Option ℕ)
frames_of options = number_or_none 1 3000000 (value_of (codes "frames") options)

unfoldable pub idle_of : CommandOptions → Option ℕ
idle_of options = number_or 50 1 1000000 (value_of (codes "idle") options)

unfoldable pub limit_of : CommandOptions → Option ℕ
limit_of options = number_or 4294967295 1 4294967295 (value_of (codes "limit") options)

-- which packets are received, by these numbers
abbrev pub asked_packets : ℕ → ℕ → Option ℕ → Option ℕ → PacketOptions
asked_packets window reach first frames = record { window = window; reach = reach; first = first; frames = frames }

-- and when enough of them were
abbrev pub asked_reading : ℕ → ℕ → Option ℕ → Option ℕ → ℕ → ℕ → ReadingOptions
asked_reading window reach first frames idle limit = record { packets = asked_packets window reach first frames; idle = idle; limit = limit }

-- what those tell that several commands share
unfoldable pub packets_of : CommandOptions → Option PacketOptions
packets_of options = do
  window ← window_of options
  reach ← reach_of options
  first ← first_of options
  frames ← frames_of options
  Some (asked_packets window reach first frames)

unfoldable pub reading_of : CommandOptions → Option ReadingOptions
reading_of options = do
  packets ← packets_of options
  idle ← idle_of options
  limit ← limit_of options
  Some (record { packets = packets; idle = idle; limit = limit })

unfoldable pub pace_of : CommandOptions → Option ℕ
pace_of options = number_or 0 0 10000 (value_of (codes "pace") options)

unfoldable pub from_of : CommandOptions → Option ℕ
from_of options = number_or 0 0 1000000 (value_of (codes "from") options)

unfoldable pub until_of : CommandOptions → Option (Option ℕ)
until_of options = number_or_none 0 1000000 (value_of (codes "until") options)

unfoldable pub to_of : CommandOptions → Option (List Address)
to_of options = addresses_or_empty (value_of (codes "to") options)

abbrev pub live_or_empty : Option (List ℕ) → Option Live
live_or_empty None = Some none
live_or_empty (Some text) = live_of text

unfoldable pub live_option : CommandOptions → Option Live
live_option options = live_or_empty (value_of (codes "live") options)

abbrev pub addresses_or_none : List (List ℕ) → Option (Option (List Address))
addresses_or_none [] = Some None
addresses_or_none (text ∷ []) = option_map Some (addresses_of text)
addresses_or_none _ = None

abbrev pub address_or_none : List (List ℕ) → Option (Option Address)
address_or_none [] = Some None
address_or_none (text ∷ []) = option_map Some (address_of text)
address_or_none _ = None

-- the value where the options are some of these, each at most once
abbrev pub with_options : List (List ℕ) → CommandOptions → Option Request → Option Request
with_options names options request = if are_of names options then request else None

abbrev pub is_bare : List (List ℕ) → CommandOptions → Bool
is_bare texts options = (length texts == 0) && (length options == 0)

abbrev pub bare_of : Request → List (List ℕ) → CommandOptions → Option Request
bare_of request texts options = if is_bare texts options then Some request else None

unfoldable pub check_of : List (List ℕ) → CommandOptions → Option Request
check_of (name ∷ []) options = with_options [] options (Some (Check name))
check_of _ options = None

unfoldable pub capacity_of : List (List ℕ) → CommandOptions → Option Request
capacity_of (name ∷ []) options = with_options [] options (Some (Capacity name))
capacity_of _ options = None

unfoldable pub agree_of : List (List ℕ) → CommandOptions → Option Request
agree_of (name ∷ other ∷ []) options = with_options [] options (Some (Agree name other))
agree_of _ options = None

abbrev pub serve_with : List ℕ → List Address → Live → CommandOptions → Option Request
serve_with name to live options = do
  pace ← pace_of options
  from ← from_of options
  until ← until_of options
  Some (Serve name to pace from until live)

abbrev pub serve_asked : List ℕ → CommandOptions → Option Request
serve_asked name options = do
  to ← to_of options
  live ← live_option options
  serve_with name to live options

unfoldable pub serve_of : List (List ℕ) → CommandOptions → Option Request
serve_of (name ∷ []) options = with_options serve_names options (serve_asked name options)
serve_of _ options = None

abbrev pub receive_with : CommandOptions → Option (List Address) → Option Request
receive_with options addresses = do
  reading ← reading_of options
  Some (Receive addresses reading.packets.window reading.packets.reach reading.packets.first reading.packets.frames reading.idle reading.limit)

unfoldable pub receive_of : List (List ℕ) → CommandOptions → Option Request
receive_of texts options = with_options reading_names options
    (option_and_then (receive_with options) (addresses_or_none texts))

abbrev pub count_with : CommandOptions → Option Address → Option Request
count_with options address = do
  reading ← reading_of options
  Some (Count address reading.packets.window reading.packets.reach reading.packets.first reading.packets.frames reading.idle reading.limit)

unfoldable pub count_of : List (List ℕ) → CommandOptions → Option Request
count_of texts options = with_options reading_names options
    (option_and_then (count_with options) (address_or_none texts))

abbrev pub air_with : List ℕ → List ℕ → CommandOptions → Option Request
air_with name script options = option_and_then (λ window. Some (Air name script window)) (window_of options)

unfoldable pub air_of : List (List ℕ) → CommandOptions → Option Request
air_of (name ∷ script ∷ []) options = with_options (codes "window" ∷ []) options (air_with name script options)
air_of _ options = None

abbrev pub convert_with : List ℕ → CommandOptions → Option Request
convert_with text options = do
  carry ← carry_of text
  packets ← packets_of options
  Some (Convert carry packets.window packets.reach packets.first packets.frames)

unfoldable pub convert_of : List (List ℕ) → CommandOptions → Option Request
convert_of (text ∷ []) options = with_options packet_names options (convert_with text options)
convert_of _ options = None

abbrev pub exercise_with : List ℕ → Option Request
exercise_with text = option_and_then (λ n. Some (Exercise n)) (within 1 1000 text)

unfoldable pub exercise_of : List (List ℕ) → CommandOptions → Option Request
exercise_of (text ∷ []) options = with_options [] options (exercise_with text)
exercise_of _ options = None

abbrev pub gate_with : List ℕ → List Address → List ℕ → CommandOptions → Option Request
gate_with from_text to text options = do
  from ← address_of from_text
  carry ← carry_of text
  reading ← reading_of options
  Some (Gate from to carry reading.packets.window reading.packets.reach reading.packets.first reading.packets.frames reading.idle reading.limit)

unfoldable pub gate_of : List (List ℕ) → CommandOptions → Option Request
gate_of (from ∷ to ∷ text ∷ []) options = with_options reading_names options (option_and_then (λ to. gate_with from to text options) (addresses_of to))
gate_of _ options = None

abbrev pub pack_with : List ℕ → List ℕ → Option Request
pack_with pid_text length_text = do
  pid ← within 0 3 pid_text
  length ← within 1 255 length_text
  Some (Pack pid length)

unfoldable pub pack_of : List (List ℕ) → CommandOptions → Option Request
pack_of (pid ∷ length ∷ []) options = with_options [] options (pack_with pid length)
pack_of _ options = None

abbrev pub unpack_with : List ℕ → List ℕ → List ℕ → CommandOptions → Option Request
unpack_with stream_text pid_text length_text options = do
  stream ← within 0 3 stream_text
  pid ← within 0 3 pid_text
  length ← within 1 255 length_text
  packets ← packets_of options
  Some (Unpack stream pid length packets.window packets.reach packets.first packets.frames)

unfoldable pub unpack_of : List (List ℕ) → CommandOptions → Option Request
unpack_of (stream ∷ pid ∷ length ∷ []) options = with_options packet_names options (unpack_with stream pid length options)
unpack_of _ options = None

abbrev pub texts_with : List ℕ → CommandOptions → Option Request
texts_with stream_text options = do
  stream ← within 0 3 stream_text
  packets ← packets_of options
  Some (Texts stream packets.window packets.reach packets.first packets.frames)

unfoldable pub texts_of : List (List ℕ) → CommandOptions → Option Request
texts_of (stream ∷ []) options = with_options packet_names options (texts_with stream options)
texts_of _ options = None

unfoldable pub request_of : List ℕ → List (List ℕ) → CommandOptions → Option Request
request_of command texts options =
    if bytes_eq command (codes "fac") then bare_of Fac texts options
    else if bytes_eq command (codes "check") then check_of texts options
    else if bytes_eq command (codes "capacity") then capacity_of texts options
    else if bytes_eq command (codes "agree") then agree_of texts options
    else if bytes_eq command (codes "serve") then serve_of texts options
    else if bytes_eq command (codes "receive") then receive_of texts options
    else if bytes_eq command (codes "count") then count_of texts options
    else if bytes_eq command (codes "air") then air_of texts options
    else if bytes_eq command (codes "show") then bare_of Show texts options
    else if bytes_eq command (codes "convert") then convert_of texts options
    else if bytes_eq command (codes "exercise") then exercise_of texts options
    else if bytes_eq command (codes "gate") then gate_of texts options
    else if bytes_eq command (codes "pack") then pack_of texts options
    else if bytes_eq command (codes "unpack") then unpack_of texts options
    else if bytes_eq command (codes "texts") then texts_of texts options
    else None
