-- The table of the commands.
use Rattle.std.specs.Prelude.{ℕ, ◌≡◌, ◌⊎◌, List, [], ◌∷◌, ◌++◌, Option, Some, None, MatchOption, IsUtf8, codes, if◌then◌else◌}
use Rattle.std.specs.Str.{bytes_eq}
use Rattle.drm_links.specs.declared.dock.Address.{Address}
use Rattle.drm_words.specs.declared.request.Request.{Request}
use Rattle.drm_words.specs.declared.request.Request.TheVariants.{Fac, Check, Capacity, Agree, Serve, Receive, Count, Air, Show, Convert, Exercise, Gate, Pack, Unpack, Texts}
use Rattle.cli_syntax.specs.Numbers.{IsNumberWithin}
use Rattle.cli_syntax.specs.Addresses.{IsAddress, AreAddresses}
use Rattle.cli_syntax.specs.Carries.{IsCarry}
use Rattle.cli_syntax.specs.Streams.{AreStreams}
use Rattle.drm_schedule.specs.declared.live.Live.{Live}
use Rattle.drm_schedule.specs.Live.{none}

-- the options that stand behind a command: names and values
abbrev pub CommandOptions : Type 0
CommandOptions = List (List ℕ × List ℕ)

-- the value of an option, if it is told
abbrev pub value_of : List ℕ → CommandOptions → Option (List ℕ)
value_of name [] = None
value_of name (option ∷ others) = if bytes_eq option.0 name then Some option.1 else value_of name others

-- it is one of these
abbrev pub IsOneOf : List (List ℕ) → List ℕ → Type 0
IsOneOf [] name = ⊥
IsOneOf (known ∷ others) name = (name ≡ known) ⊎ IsOneOf others name

-- each option has one of these names, and no name comes twice
abbrev pub AreOf : List (List ℕ) → CommandOptions → Type 0
AreOf names [] = Unit {0}
AreOf names (option ∷ others) = IsOneOf names option.0 × (value_of option.0 others ≡ None) × AreOf names others

-- the number of an option in its range, or the default where the option isn't told
abbrev pub IsNumberOr : ℕ → ℕ → ℕ → Option (List ℕ) → ℕ → Type 0
IsNumberOr default least greatest value n = MatchOption value (n ≡ default) (λ text. IsNumberWithin least greatest text n)

-- the number of an option in its range, or none where the option isn't told
abbrev pub IsNumberOrNone : ℕ → ℕ → Option (List ℕ) → Option ℕ → Type 0
IsNumberOrNone least greatest None n = n ≡ None
IsNumberOrNone least greatest (Some text) n = (number : ℕ) × (n ≡ Some number) × IsNumberWithin least greatest text number

-- the address of an option, or none where the option isn't told
abbrev pub AreAddressesOrEmpty : Option (List ℕ) → List Address → Type 0
AreAddressesOrEmpty None addresses = addresses ≡ []
AreAddressesOrEmpty (Some text) addresses = AreAddresses text addresses

-- the streams of an option, or none where the option isn't told
abbrev pub AreStreamsOrEmpty : Option (List ℕ) → Live → Type 0
AreStreamsOrEmpty None live = live ≡ none
AreStreamsOrEmpty (Some text) live = AreStreams text live

-- no plain word and no addresses, or one plain word that is a list of addresses
abbrev pub AreAddressesOrNone : List (List ℕ) → Option (List Address) → Type 0
AreAddressesOrNone [] addresses = addresses ≡ None
AreAddressesOrNone (text ∷ []) addresses = (list : List Address) × (addresses ≡ Some list) × AreAddresses text list
AreAddressesOrNone _ addresses = ⊥

-- no plain word and no address, or one plain word that is an address
abbrev pub IsAddressOrNone : List (List ℕ) → Option Address → Type 0
IsAddressOrNone [] address = address ≡ None
IsAddressOrNone (text ∷ []) address = (at : Address) × (address ≡ Some at) × IsAddress text at
IsAddressOrNone _ address = ⊥

-- [--to ADDRS] [--pace MS] [--from N] [--until M] [--live LIST]: where datagrams go, how fast, of which super frames, and which
-- streams take their bytes from input
abbrev pub serve_names : List (List ℕ)
serve_names = codes "to" ∷ codes "pace" ∷ codes "from" ∷ codes "until" ∷ codes "live" ∷ []

-- [--window W] [--reach A] [--first N] [--frames N]: which packets are read, how far ahead, and how many frames of them
abbrev pub packet_names : List (List ℕ)
packet_names = codes "window" ∷ codes "reach" ∷ codes "first" ∷ codes "frames" ∷ []

pub record IsStretch (options : CommandOptions) (window reach : ℕ) (first frames : Option ℕ) : Type 0 where
  pub has_window : IsNumberOr 8 1 64 (value_of (codes "window") options) window
  pub has_reach : IsNumberOr 32767 1 32767 (value_of (codes "reach") options) reach
  pub has_first : IsNumberOrNone 0 65535 (value_of (codes "first") options) first
  pub has_frames : IsNumberOrNone 1 3000000 (value_of (codes "frames") options) frames

-- the same with [--idle K] [--limit L]: when a link has brought enough
abbrev pub reading_names : List (List ℕ)
reading_names = packet_names ++ codes "idle" ∷ codes "limit" ∷ []

pub record IsReading (options : CommandOptions) (window reach : ℕ) (first frames : Option ℕ) (idle limit : ℕ) : Type 0 where
  pub packets : IsStretch options window reach first frames
  pub has_idle : IsNumberOr 50 1 1000000 (value_of (codes "idle") options) idle
  pub has_limit : IsNumberOr 4294967295 1 4294967295 (value_of (codes "limit") options) limit

-- The request of a command with these plain words and these options, a row for each command. Where an option has a
-- default it stands before the option's range.
abbrev pub IsRequest : Request → List ℕ → List (List ℕ) → CommandOptions → Type 0
-- fac
IsRequest Fac command texts options = (command ≡ codes "fac") × (texts ≡ []) × AreOf [] options
-- check NAME
IsRequest (Check name) command texts options = (command ≡ codes "check") × (texts ≡ name ∷ []) × AreOf [] options
-- capacity NAME
IsRequest (Capacity name) command texts options = (command ≡ codes "capacity") × (texts ≡ name ∷ []) × AreOf [] options
-- agree NAME OTHER
IsRequest (Agree name other) command texts options = (command ≡ codes "agree") × (texts ≡ name ∷ other ∷ []) × AreOf [] options
-- serve NAME [--to ADDRS] [--pace MS] [--from N] [--until M] [--live LIST]
IsRequest (Serve name to pace from until live) command texts options =
    (command ≡ codes "serve") × (texts ≡ name ∷ []) × AreOf serve_names options
    × AreAddressesOrEmpty (value_of (codes "to") options) to
    × IsNumberOr 0 0 10000 (value_of (codes "pace") options) pace
    × IsNumberOr 0 0 1000000 (value_of (codes "from") options) from
    × IsNumberOrNone 0 1000000 (value_of (codes "until") options) until
    × AreStreamsOrEmpty (value_of (codes "live") options) live
-- receive [ADDRS] [--window W] [--reach A] [--first N] [--frames N] [--idle K] [--limit L]
IsRequest (Receive addresses window reach first frames idle limit) command texts options =
    (command ≡ codes "receive") × AreAddressesOrNone texts addresses
    × AreOf reading_names options × IsReading options window reach first frames idle limit
-- count [ADDR] [--window W] [--reach A] [--first N] [--frames N] [--idle K] [--limit L]
IsRequest (Count address window reach first frames idle limit) command texts options =
    (command ≡ codes "count") × IsAddressOrNone texts address
    × AreOf reading_names options × IsReading options window reach first frames idle limit
-- air NAME SCRIPT [--window W]
IsRequest (Air name script window) command texts options =
    (command ≡ codes "air") × (texts ≡ name ∷ script ∷ []) × AreOf (codes "window" ∷ []) options
    × IsNumberOr 8 1 64 (value_of (codes "window") options) window
-- show
IsRequest Show command texts options = (command ≡ codes "show") × (texts ≡ []) × AreOf [] options
-- convert CARRY [--window W] [--reach A] [--first N] [--frames N]
IsRequest (Convert carry window reach first frames) command texts options =
    (command ≡ codes "convert") × (text : List ℕ) × (texts ≡ text ∷ []) × IsCarry text carry
    × AreOf packet_names options × IsStretch options window reach first frames
-- exercise N
IsRequest (Exercise n) command texts options =
    (command ≡ codes "exercise") × (text : List ℕ) × (texts ≡ text ∷ []) × IsNumberWithin 1 1000 text n × AreOf [] options
-- gate FROM ADDRS CARRY [--window W] [--reach A] [--first N] [--frames N] [--idle K] [--limit L]
IsRequest (Gate from to carry window reach first frames idle limit) command texts options =
    (command ≡ codes "gate") × (source target text : List ℕ) × (texts ≡ source ∷ target ∷ text ∷ [])
    × IsAddress source from × AreAddresses target to × IsCarry text carry
    × AreOf reading_names options × IsReading options window reach first frames idle limit
-- pack PID LENGTH
IsRequest (Pack pid length) command texts options =
    (command ≡ codes "pack") × (first second : List ℕ) × (texts ≡ first ∷ second ∷ [])
    × IsNumberWithin 0 3 first pid × IsNumberWithin 1 255 second length × AreOf [] options
-- unpack STREAM PID LENGTH [--window W] [--reach A] [--first N] [--frames N]
IsRequest (Unpack stream pid length window reach first frames) command texts options =
    (command ≡ codes "unpack") × (a b c : List ℕ) × (texts ≡ a ∷ b ∷ c ∷ [])
    × IsNumberWithin 0 3 a stream × IsNumberWithin 0 3 b pid × IsNumberWithin 1 255 c length
    × AreOf packet_names options × IsStretch options window reach first frames
-- texts STREAM [--window W] [--reach A] [--first N] [--frames N]
IsRequest (Texts stream window reach first frames) command texts options =
    (command ≡ codes "texts") × (text : List ℕ) × (texts ≡ text ∷ []) × IsNumberWithin 0 3 text stream
    × AreOf packet_names options × IsStretch options window reach first frames

-- each name is text
abbrev pub HasTextNames : Request → Type 0
HasTextNames (Check name) = IsUtf8 name
HasTextNames (Capacity name) = IsUtf8 name
HasTextNames (Agree name other) = IsUtf8 name × IsUtf8 other
HasTextNames (Serve name to pace from until live) = IsUtf8 name
HasTextNames (Air name script window) = IsUtf8 name × IsUtf8 script
HasTextNames _ = Unit {0}
