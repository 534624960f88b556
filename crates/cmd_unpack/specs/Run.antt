-- A run of `unpack` or of `texts`.
use Rattle.std.specs.Prelude.{ℕ, ◌≡◌, ◌⊎◌, ◌↔◌, Bool, List, [], ◌∷◌, ◌++◌, Result, Ok, Err}
use Rattle.dcp_collect.specs.Runs.{CollectorItem as Given}
use Rattle.mod_feed.specs.Items.{FrameItem, IsItemOf}
use Rattle.drm_links.specs.Known.{Known, HasFailed, HasCause}
use Rattle.drm_links.specs.Source.{Input, InputsBytes}
use Rattle.drm_links.specs.Sink.{Output, OutputsText, IsPrefix, IsPrefixBehind}
use Rattle.capture_reader.specs.Capture as capture
use Rattle.capture_reader.specs.declared.packets.CaptureStop.{CaptureStop}
use Rattle.capture_reader.specs.declared.packets.CaptureStop.TheVariants as stops
use Rattle.cmd_faults.specs.Captures.{EndsEarly, EndsByIt}
use Rattle.cmd_faults.specs.Fault.{UnlessMemory}
use Rattle.cmd_faults.specs.declared.fault.Fault.{Fault}
use Rattle.cmd_faults.specs.declared.fault.Fault.TheVariants as faults
use Rattle.recv_reading.specs.Packets.{BreaksOffBy}
use Rattle.recv_reading.specs.declared.options.PacketRange.{PacketRange}
use Rattle.recv_reading.specs.Given.{GivesAll, GivesUntil, GivesTo}
use Rattle.cmd_unpack.specs.Streams.{PayloadKind}
use Rattle.cmd_unpack.specs.Printed.{AreItems, IsPrinted, IsWholeText}

-- All that is printed of the items that are given of the input is written.
abbrev pub WritesAll : PacketRange → PayloadKind → Bool → Known Input → Known Input → Known Output → Known Output → Type 0
WritesAll range what clean before after out out' =
    (given : List Given) × GivesAll range given before after × (items : List FrameItem) × AreItems given items
    × (whole : List ℕ) × IsWholeText what items whole clean × OutputsText out out' (λ text. text ≡ whole)

-- No more can be read for this reason: what is printed of the items that were given is written, without what only an end adds.
abbrev pub WritesUntil : PacketRange → PayloadKind → CaptureStop → Known Input → Known Input → Known Output → Known Output → Type 0
WritesUntil range what stop before after out out' =
    (given : List Given) × GivesUntil range stop given before after × (items : List FrameItem) × AreItems given items
    × (printed : List ℕ) × IsPrinted what items printed × OutputsText out out' (λ text. text ≡ printed)

-- A write failed, of what is printed of an item or at the end: all that was printed before is written, and a front of that. Nothing
-- more is read.
abbrev pub WritesPrefix : PacketRange → PayloadKind → Known Input → Known Input → Known Output → Known Output → Type 0
WritesPrefix range what before after out out' =
    ((given : List Given) × (last : Given) × GivesTo range given last before after
    × (items : List FrameItem) × AreItems given items × (item : FrameItem) × IsItemOf last item
    × (printed line : List ℕ) × IsPrinted what items printed × IsPrinted what (items ++ item ∷ []) (printed ++ line)
    × OutputsText out out' (IsPrefixBehind printed line))
    ⊎ ((given : List Given) × GivesAll range given before after × (items : List FrameItem) × AreItems given items
    × (printed rest : List ℕ) × (clean : Bool) × IsPrinted what items printed × IsWholeText what items (printed ++ rest) clean
    × OutputsText out out' (IsPrefixBehind printed rest))

-- What is read and written; where memory is wanting, nothing.
abbrev pub DataEnds : PacketRange → PayloadKind → Result Bool Fault → Known Input → Known Input → Known Output → Known Output → Type 0
DataEnds range what (Ok clean) before after out out' = WritesAll range what clean before after out out'
DataEnds range what (Err faults.Write) before after out out' = WritesPrefix range what before after out out'
DataEnds range what (Err faults.Read) before after out out' = WritesUntil range what stops.Read before after out out'
DataEnds range what (Err (faults.Capture fault)) before after out out' = WritesUntil range what (stops.Capture fault) before after out out'
DataEnds range what (Err faults.CaptureTooLong) before after out out' = WritesUntil range what stops.TooLong before after out out'
DataEnds range what (Err faults.NoMemory) before after out out' = (after ≡ before) × (out' ≡ out)
DataEnds range what (Err fault) before after out out' = ⊥

-- a front of all that is printed of some items
abbrev pub IsPrefixOfText : PayloadKind → List ℕ → Type 0
IsPrefixOfText what text = (items : List FrameItem) × (whole : List ℕ) × (clean : Bool) × IsWholeText what items whole clean × IsPrefix whole text

-- Where out tells, it got what is printed of some items: all of it, which is as clean as the run says, or a front.
abbrev pub UnpackIsSound : PayloadKind → Result Bool Fault → Known Output → Known Output → Type 0
UnpackIsSound what (Ok clean) out out' = OutputsText out out' (λ text. (items : List FrameItem) × IsWholeText what items text clean)
UnpackIsSound what (Err fault) out out' = OutputsText out out' (IsPrefixOfText what)

-- The run is done, and all is written.
abbrev pub IsUnpackingDone : PacketRange → PayloadKind → Result Bool Fault → Known Input → Known Input → Known Output → Known Output → Type 0
IsUnpackingDone range what ending before after out out' = (clean : Bool) × (ending ≡ Ok clean) × WritesAll range what clean before after out out'

-- A run that takes this out of a capture.
pub record DataRun {I O : Type 0} (range : PacketRange) (what : PayloadKind) (ending : Result Bool Fault)
    (input_known : I → Known Input) (input input' : I)
    (out_known : O → Known Output) (out out' : O) : Type 0 where
  -- It ends well, or for want of memory, by a fault of the capture, by a failed read or by a failed write.
  pub kind : (fault : Fault) → ending ≡ Err fault → EndsEarly fault
  pub ends : DataEnds range what ending (input_known input) (input_known input') (out_known out) (out_known out')
  -- Whatever the input tells, out got no other text than one that items have.
  pub sound : UnpackIsSound what ending (out_known out) (out_known out')
  -- After want of memory nothing was read or written.
  pub untouched : ending ≡ Err faults.NoMemory → (input' ≡ input) × (out' ≡ out)
  -- It ends by a fault of the capture exactly where the reading breaks off by it, unless a read or a write failed before.
  pub exactly : (ending ≡ Err faults.Read → ⊥) → (ending ≡ Err faults.Write → ⊥)
      → InputsBytes (input_known input) (input_known input') (λ left _.
      UnlessMemory ending ((why : capture.CaptureEnding) → EndsByIt ending why ↔ BreaksOffBy range left why))
  -- Where no read and no write failed, and the reading doesn't break off, all is written.
  pub complete : (HasFailed (input_known input) (input_known input') → ⊥) → (HasFailed (out_known out) (out_known out') → ⊥)
      → InputsBytes (input_known input) (input_known input') (λ left _. ((why : capture.CaptureEnding) → BreaksOffBy range left why → ⊥)
      → UnlessMemory ending (IsUnpackingDone range what ending (input_known input) (input_known input') (out_known out) (out_known out')))
  -- A count of faults rose, by one, exactly where a read or a write ended the run.
  pub read_cause : HasCause (input_known input) (input_known input') (ending ≡ Err faults.Read)
  pub write_cause : HasCause (out_known out) (out_known out') (ending ≡ Err faults.Write)
