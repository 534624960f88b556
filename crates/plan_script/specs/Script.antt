-- Scripts: which fragments of which packets are delivered to each feed, and in which order; and what can be wrong with one.
use Rattle.std.specs.Prelude.{ℕ, ◌+◌, ◌-◌, ◌<◌, ◌≤◌, ◌==◌, ◌&&◌, ◌||◌, not, nat_le, nat_lt, Bool, true, false, length, sum_by, All, List, [], ◌∷◌, ◌++◌, map, reverse, drop, Option, Some, None, Result, Ok, Err, if◌then◌else◌}
use Rattle.std.specs.List.{flat_map, range_with_len, slice_split}
use Rattle.std.specs.Str.{is_utf8}
use Rattle.text_lines.specs.Faults.{FaultOf, fault, first_fault, ok_unless, words_say, lines_say, ◌>>=◌}
use Rattle.text_lines.specs.Lines.{lines_of, words_of, bad_line_of}
use Rattle.text_lines.specs.Texts.{longest_text}
use Rattle.plan_rows.specs.declared.fault.Wrong.{Wrong}
use Rattle.plan_rows.specs.declared.fault.Wrong.TheVariants as wrongs
use Rattle.plan_rows.specs.declared.keyword.Keyword.{Keyword}
use Rattle.plan_rows.specs.declared.keyword.Keyword.TheVariants as keywords
use Rattle.plan_rows.specs.declared.value.LineValue.{LineValue}
use Rattle.plan_rows.specs.Values.{number_at}
use Rattle.plan_rows.specs.Tables.{keyword_in, line_reads}
use Rattle.drm_schedule.specs.declared.invalid.Reason.{Reason}
use Rattle.drm_schedule.specs.declared.invalid.Reason.TheVariants.{Word, Number, Range, Missing, TooLong, Utf8}
use Rattle.drm_schedule.specs.declared.plan.Plan.{Plan}
use Rattle.drm_timeline.specs.Numbers.{frame_count, packet_size}
use Rattle.dcp_pft.specs.Carrying.{datagram_count, datagram_size}
use Rattle.plan_script.specs.declared.delivery.Delivery.{Delivery}
use Rattle.plan_script.specs.declared.line.ScriptLine.{ScriptLine}
use Rattle.plan_script.specs.declared.line.ScriptLine.TheVariants as lines
use Rattle.plan_script.specs.declared.line.Delivers.{Delivers}
use Rattle.plan_script.specs.declared.line.Delivers.TheVariants as delivers
use Rattle.plan_script.specs.declared.table.TheConstants.{TABLE}

-- how many fragments this packet of the schedule has; one, where it is carried whole
unfoldable pub fragment_count : Plan → ℕ → ℕ
fragment_count plan packet = datagram_count plan.carry (packet_size plan packet)

-- the bytes that a delivery takes: those of its datagram
unfoldable pub delivery_size : Plan → Delivery → ℕ
delivery_size plan d = datagram_size plan.carry (packet_size plan d.packet) d.fragment

abbrev pub delivery : ℕ → ℕ → Delivery
delivery packet i = record { packet = packet; fragment = i }

-- a fragment of the schedule
pub record IsDelivery (plan : Plan) (d : Delivery) : Type 0 where
  pub packet : d.packet < frame_count plan
  pub fragment : d.fragment < fragment_count plan d.packet

-- all fragments of a packet, in their order
unfoldable pub all_of : Plan → ℕ → List Delivery
all_of plan packet = map (delivery packet) (range_with_len 0 (fragment_count plan packet))

-- the fragments that a line delivers, in their order
unfoldable pub delivered : Plan → Delivers → List Delivery
delivered plan (delivers.Take packet i) = delivery packet i ∷ []
delivered plan (delivers.Packet packet) = all_of plan packet
delivered plan (delivers.Packets first last) = flat_map (all_of plan) (range_with_len first (last + 1 - first))
delivered plan (delivers.Back packet) = reverse (all_of plan packet)

abbrev pub has_packet : Plan → ℕ → Bool
has_packet plan packet = nat_lt packet (frame_count plan)

-- there are such packets and such a fragment, and the first packet isn't behind the last
unfoldable pub in_schedule : Plan → Delivers → Bool
in_schedule plan (delivers.Take packet i) = has_packet plan packet && nat_lt i (fragment_count plan packet)
in_schedule plan (delivers.Packet packet) = has_packet plan packet
in_schedule plan (delivers.Packets first last) = nat_le first last && has_packet plan last
in_schedule plan (delivers.Back packet) = has_packet plan packet

abbrev pub in_range : Plan → ScriptLine → Bool
in_range plan lines.Feed = true
in_range plan (lines.Deliver d) = in_schedule plan d

-- what a line of this keyword and these values says
abbrev pub says : Keyword → List LineValue → ScriptLine
says keywords.Take v = lines.Deliver (delivers.Take (number_at v 0) (number_at v 1))
says keywords.Packet v = lines.Deliver (delivers.Packet (number_at v 0))
says keywords.Packets v = lines.Deliver (delivers.Packets (number_at v 0) (number_at v 1))
says keywords.Back v = lines.Deliver (delivers.Back (number_at v 0))
says _ v = lines.Feed

abbrev pub is_feed : ScriptLine → Bool
is_feed lines.Feed = true
is_feed (lines.Deliver d) = false

abbrev pub line_delivers : Plan → ScriptLine → List Delivery
line_delivers plan lines.Feed = []
line_delivers plan (lines.Deliver d) = delivered plan d

-- the feeds of these lines: each feed line begins one, which gets what the lines behind it deliver, up to the next one
unfoldable pub feeds_of : Plan → List ScriptLine → List (List Delivery)
feeds_of plan said = map (flat_map (line_delivers plan)) (drop 1 (slice_split is_feed said))

-- more than 16 feeds, 100,000 deliveries or 268,435,456 bytes
unfoldable pub is_too_long : Plan → List (List Delivery) → Bool
is_too_long plan feeds = nat_lt 16 (length feeds) || nat_lt 100000 (sum_by length feeds) || nat_lt 268435456 (sum_by (sum_by (delivery_size plan)) feeds)

-- One to sixteen feeds of fragments of the schedule, within the limits.
pub record IsScript (plan : Plan) (feeds : List (List Delivery)) : Type 0 where
  pub some : 1 ≤ length feeds
  pub few : length feeds ≤ 16
  pub each : All (All (IsDelivery plan)) feeds
  pub few_deliveries : sum_by length feeds ≤ 100000
  pub few_bytes : sum_by (sum_by (delivery_size plan)) feeds ≤ 268435456

-- a fault of a script's text
abbrev pub ScriptTextFault : Type 0
ScriptTextFault = FaultOf Reason

abbrev pub reason_of : Wrong → Reason
reason_of wrongs.Word = Word
reason_of wrongs.Number = Number
reason_of wrongs.Range = Range

-- what line n says by what its row reads, if the schedule has what it delivers
abbrev pub said_by : Plan → ℕ → Keyword → Result (List LineValue) Wrong → Result ScriptLine ScriptTextFault
said_by plan n keyword (Ok v) = if in_range plan (says keyword v) then Ok (says keyword v) else Err (fault n Range)
said_by plan n keyword (Err wrong) = Err (fault n (reason_of wrong))

abbrev pub said_keyword : Plan → ℕ → Option Keyword → List ℕ → List (List ℕ) → Result ScriptLine ScriptTextFault
said_keyword plan n None line words = Err (fault n Word)
said_keyword plan n (Some keyword) line words = said_by plan n keyword (line_reads TABLE 1 keyword line words)

-- what line n says by itself, by the whole line, its first word, and those after it
unfoldable pub line_said : Plan → ℕ → List ℕ → List ℕ → List (List ℕ) → Result ScriptLine ScriptTextFault
line_said plan n line first words = said_keyword plan n (keyword_in TABLE 1 first) line words

-- a line that delivers, where there is no feed
abbrev pub lacks_feed : List (List Delivery) → ScriptLine → Bool
lacks_feed feeds line = not (is_feed line) && length feeds == 0

-- The rows for line n after others: the first that holds is the fault.
abbrev pub rows : ℕ → Bool → Bool → List (Bool × ScriptTextFault)
rows n missing long = (missing, fault n Missing) ∷ (long, fault n TooLong) ∷ []

-- line n, which by itself says this, after these lines: no feed stands before it, or it goes past a limit
unfoldable pub said_after : Plan → List ScriptLine → ℕ → ScriptLine → Result (List ScriptLine) ScriptTextFault
said_after plan said n line =
    ok_unless (first_fault (rows n (lacks_feed (feeds_of plan said) line) (is_too_long plan (feeds_of plan (said ++ line ∷ []))))) (said ++ line ∷ [])

-- a line of these words
abbrev pub said_words : Plan → List ScriptLine → ℕ → List ℕ → List (List ℕ) → Result (List ScriptLine) ScriptTextFault
said_words plan said n line words = words_say said (λ first more. line_said plan n line first more >>= said_after plan said n) words

-- lines from line n on, after these lines
abbrev pub said_from : Plan → List ScriptLine → ℕ → List (List ℕ) → Result (List ScriptLine) ScriptTextFault
said_from plan said n lines = lines_say (λ before k line. said_words plan before k line (words_of line)) said n lines

-- the end of a text of n lines, where no feed may be missing
unfoldable pub ended : ℕ → List (List Delivery) → Result (List (List Delivery)) ScriptTextFault
ended n feeds = ok_unless (first_fault ((length feeds == 0, fault (n + 1) Missing) ∷ [])) feeds

-- the feeds that the lines of a text give, or their first fault
unfoldable pub script_of : Plan → List (List ℕ) → Result (List (List Delivery)) ScriptTextFault
script_of plan lines = do
  said ← said_from plan [] 1 lines
  ended (length lines) (feeds_of plan said)

-- the feeds that a text gives, or its first fault: that it is too long, then that it is no UTF-8, then that of its lines
unfoldable pub script_of_text : Plan → List ℕ → Result (List (List Delivery)) ScriptTextFault
script_of_text plan text =
    if nat_lt longest_text (length text) then Err (fault 0 TooLong)
    else if is_utf8 text then script_of plan (lines_of text)
    else Err (fault (bad_line_of text) Utf8)
