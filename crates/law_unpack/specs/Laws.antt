-- What is unpacked of frames whose stream is the packets of units.
use Rattle.std.specs.Prelude.{ℕ, ◌≡◌, ◌≤◌, Bool, false, List, ◌++◌, None}
use Rattle.std.specs.List.{AllByRecursion}
use Rattle.drm_data.specs.Units.{packets}
use Rattle.drm_data.specs.Joining.{JoinerAnswer, made}
use Rattle.law_data.specs.Losses.{IsUnit, whole_units, cut_count}
use Rattle.law_data.specs.Runs.{answers, after_all, units_in, cuts_in}
use Rattle.mod_feed.specs.Items.{FrameItem}
use Rattle.cmd_unpack.specs.Streams.{UnitsOf}
use Rattle.cmd_unpack.specs.Lines.{answers_text, units_end, is_clean}
use Rattle.cmd_unpack.specs.Printed.{unit_counts, IsWholeText}
use Rattle.law_unpack.specs.Frames.{FramePackets, events_of, packets_of, kept_of, BringAll}

-- Of the packets of units in frames, some of which are lost, a joiner gives exactly the units for which each frame is given from that of the
-- first packet to that of the last, and tells one cut for each other unit whose first packet came. At the end no unit is open.
abbrev pub GivesWhatFramesBring : Type 0
GivesWhatFramesBring =
    (id d : ℕ) (units : List (List ℕ)) (frames : List FramePackets)
    → 1 ≤ d → AllByRecursion IsUnit units → packets_of frames ≡ packets id d units
    → (units_in (answers (made id d) (events_of frames)) ≡ whole_units d (kept_of frames) units)
    × (cuts_in (answers (made id d) (events_of frames)) ≡ cut_count d (kept_of frames) units)
    × ((after_all (made id d) (events_of frames)).begun ≡ None)

-- Whatever is printed of items that bring such frames is the text of answers that give these units, and no others, and tell these cuts.
pub record UnpacksTo (k id d : ℕ) (units : List (List ℕ)) (frames : List FramePackets) (items : List FrameItem) (text : List ℕ) (clean : Bool) : Type 0 where
  pub said : List JoinerAnswer
  pub units_are : units_in said ≡ whole_units d (kept_of frames) units
  pub cuts_are : cuts_in said ≡ cut_count d (kept_of frames) units
  pub text_is : text ≡ answers_text said ++ units_end (unit_counts k id d items said false)
  pub clean_is : clean ≡ is_clean (unit_counts k id d items said false)

abbrev pub UnpacksWhatIsWhole : Type 0
UnpacksWhatIsWhole =
    (k id d : ℕ) (units : List (List ℕ)) (frames : List FramePackets) (items : List FrameItem) (text : List ℕ) (clean : Bool)
    → 1 ≤ d → AllByRecursion IsUnit units → packets_of frames ≡ packets id d units
    → BringAll (UnitsOf k id d) d items frames → IsWholeText (UnitsOf k id d) items text clean
    → UnpacksTo k id d units frames items text clean
