-- What `texts` prints of a delivery of a schedule.
use Rattle.std.specs.Prelude.{ℕ, ℤ, ◌≡◌, ◌+◌, ◌-◌, ◌*◌, ◌/◌, ◌≤◌, ◌==◌, Bool, true, false, List, [], ◌∷◌, ◌++◌, length, map, slice_get, decimal, Option, None, Some}
use Rattle.std.specs.List.{range_with_len, flat_map}
use Rattle.drm_schedule.specs.declared.config.Config.{Config}
use Rattle.drm_schedule.specs.declared.plan.Plan.{Plan}
use Rattle.drm_schedule.specs.Valid.{IsSchedule}
use Rattle.drm_schedule.specs.Contents.{stream_bytes}
use Rattle.drm_timeline.specs.Standing.{config_of}
use Rattle.drm_timeline.specs.Numbers.{frame_count}
use Rattle.dcp_collect.specs.declared.taken.Taken.{Taken}
use Rattle.dcp_collect.specs.Numbers.{end_of}
use Rattle.dcp_collect.specs.Runs.{CollectorItem as Collected, CollectorRun}
use Rattle.law_collect.specs.Delivery.{newest_of}
use Rattle.law_delivery.specs.Sent.{Arrival, pairs_in, IsDeliveryOf}
use Rattle.law_text.specs.Readings.{PieceReading, AreMessages}
use Rattle.mod_feed.specs.Items.{FrameItem}
use Rattle.cmd_unpack.specs.Streams.{TextsOf, pieces_of, entries_of, bad_in, missing_in}
use Rattle.cmd_unpack.specs.Lines.{text_line, texts_end_text}
use Rattle.cmd_unpack.specs.Printed.{AreItems, IsWholeText}
use Rattle.law_unpack.specs.Delivered.{is_given}

-- the bytes of stream k in frame t of the schedule, where it has that stream
abbrev pub bytes_in : ℕ → ℕ → Option Config → Option (List ℕ)
bytes_in k t None = None
bytes_in k t (Some config) = slice_get (map (stream_bytes (t - 3 * config.start)) config.streams) k

-- What a frame is in a reading: the piece at the end of its stream, if it is given and has one; else a gap.
abbrev pub entries_where : Bool → Plan → (k t : ℕ) → PieceReading
entries_where true plan k t = entries_of (pieces_of (TextsOf k) (bytes_in k t (config_of plan (t / 3))))
entries_where false plan k t = None ∷ []

-- all frames of the schedule, in order
abbrev pub entries_by : Plan → ℕ → ℤ → List (ℕ × ℕ) → (end k : ℕ) → PieceReading
entries_by plan window first_frame pairs end k = flat_map (λ t. entries_where (is_given plan window first_frame pairs end t) plan k t) (range_with_len 0 (frame_count plan))

abbrev pub piece_count : PieceReading → ℕ
piece_count [] = 0
piece_count (None ∷ reading) = piece_count reading
piece_count (Some piece ∷ reading) = 1 + piece_count reading

-- The text is a line for each message in the reading, in order, and the last line. It is clean exactly where each number up to the end
-- brought a piece.
pub record ShowsMessages (k end : ℕ) (reading : PieceReading) (items : List FrameItem) (text : List ℕ) (clean : Bool) : Type 0 where
  pub messages : List (List ℕ)
  pub are : AreMessages [] reading messages
  pub text_is : text ≡ flat_map text_line messages ++ texts_end_text (decimal (length messages)) (decimal (missing_in items)) (decimal (bad_in (TextsOf k) items))
  pub clean_is : clean ≡ (piece_count reading == end)

-- Of a delivery of any schedule, with any foreign datagrams in it, what is printed of a stream is exactly the messages in the frames that are given,
-- with a gap for each other frame. A reading ends at the told number, or behind the newest one.
abbrev pub TextsOfDeliveries : Type 0
TextsOfDeliveries =
    (plan : Plan) (window reach : ℕ) (first frame_limit : Option ℕ) (first_frame : ℤ) (arrivals : List Arrival) (datagrams : List (List ℕ))
    (answers : List Taken) (collected : List Collected) (k : ℕ) (items : List FrameItem) (text : List ℕ) (clean : Bool)
    → IsSchedule plan → 1 ≤ window → IsDeliveryOf plan reach first first_frame arrivals datagrams → CollectorRun window reach first frame_limit datagrams answers collected
    → AreItems collected items → IsWholeText (TextsOf k) items text clean
    → let pairs : List (ℕ × ℕ) = pairs_in arrivals in
    let end : ℕ = end_of frame_limit (newest_of first_frame None pairs) in
    ShowsMessages k end (entries_by plan window first_frame pairs end k) items text clean
