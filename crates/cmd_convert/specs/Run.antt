-- The conversion of a capture.
use Rattle.std.specs.Prelude.{ℕ, ◌≡◌, ◌↔◌, All, Bool, true, false, List, [], ◌∷◌, ◌++◌, length, Result, Ok, Err}
use Rattle.std.specs.List.{AllByRecursion}
use Rattle.dcp_pft.specs.declared.carry.Carry.{Carry}
use Rattle.dcp_collect.specs.declared.taken.Taken.{Taken}
use Rattle.dcp_collect.specs.CollectorState.{CollectorState, made}
use Rattle.dcp_collect.specs.Runs.{CollectorItem, CollectorSteps, CollectorRun}
use Rattle.drm_links.specs.Known.{Known, HasFailed, HasCause}
use Rattle.drm_links.specs.Source.{Input, InputsBytes}
use Rattle.drm_links.specs.Sink.{Output, OutputsText, IsPrefix, IsPrefixBehind}
use Rattle.capture_reader.specs.Front.{IsWhole}
use Rattle.capture_reader.specs.Capture.{IsCaptureOf, CaptureEnding, End}
use Rattle.capture_reader.specs.Reading.{ReadingStops}
use Rattle.capture_reader.specs.declared.packets.CaptureStop.{CaptureStop}
use Rattle.capture_reader.specs.declared.packets.CaptureStop.TheVariants as stops
use Rattle.cmd_faults.specs.Captures.{EndsEarlyOr, EndsByIt}
use Rattle.cmd_faults.specs.Fault.{UnlessMemory}
use Rattle.cmd_faults.specs.declared.fault.Fault.{Fault}
use Rattle.cmd_faults.specs.declared.fault.Fault.TheVariants as faults
use Rattle.cmd_convert.specs.Converting.{ItemOutput, ConvertsAll, IsTooLarge, text_of, lines_of}
use Rattle.cmd_convert.specs.Naming.{NamesItems}
use Rattle.cmd_convert.specs.Converted.{are_clean}
use Rattle.recv_reading.specs.First.{first_of}
use Rattle.recv_reading.specs.Packets.{HasEnough, NoneShorter, AreEnough, ComesAt, AreReadBy, BreaksOffBy}
use Rattle.recv_reading.specs.declared.options.PacketRange.{PacketRange}
use Rattle.recv_reading.specs.State.{is_full}

-- ---- what they become

-- The items that a collector gives of these packets, up to the told number, and their parts.
pub record IsConversion (range : PacketRange) (carry : Carry) (packets : List (List ℕ)) (parts : List ItemOutput) : Type 0 where
  pub taken : List Taken
  pub items : List CollectorItem
  pub run : CollectorRun range.window range.reach range.first range.frame_limit packets taken items
  pub converts : ConvertsAll carry (first_of run.mid) items parts

-- Those that it gives before any end, and their parts.
pub record IsConversionBroken (range : PacketRange) (carry : Carry) (packets : List (List ℕ)) (parts : List ItemOutput) : Type 0 where
  pub taken : List Taken
  pub items : List CollectorItem
  pub mid : CollectorState
  pub steps : CollectorSteps (made range.window range.reach range.first) packets taken items mid
  pub converts : ConvertsAll carry (first_of mid) items parts

-- Packets that are read give these items first, and then this one, which isn't past the told number; fewer of them aren't enough.
pub record ReadsTo (range : PacketRange) (items : List CollectorItem) (item : CollectorItem) (last : CollectorState) (before after : Known Input) : Type 0 where
  pub packets : List (List ℕ)
  pub at : ComesAt range packets items item last
  pub read : AreReadBy at.later packets before after
  pub shorter : NoneShorter range packets
  pub within : is_full range.frame_limit (length items) ≡ false

-- ---- a run

-- No more can be read for this reason: what the packets read so far become is written and named.
abbrev pub ConversionEndsEarly : PacketRange → Carry → CaptureStop → Bool → Known Input → Known Input → Known Output → Known Output → Known Output → Known Output → Type 0
ConversionEndsEarly range carry stop err_ok before after out out' err err' =
    (packets : List (List ℕ)) × All IsWhole packets × ReadingStops packets stop before after × (HasEnough range packets → ⊥) × NoneShorter range packets
    × (parts : List ItemOutput) × IsConversionBroken range carry packets parts
    × OutputsText out out' (λ text. text ≡ text_of parts) × NamesItems true err_ok err err' (lines_of parts)

-- All that the packets become is written and named.
abbrev pub WritesAll : PacketRange → Carry → Bool → Bool → Known Input → Known Input → Known Output → Known Output → Known Output → Known Output → Type 0
WritesAll range carry clean err_ok before after out out' err err' =
    (packets : List (List ℕ)) × AreEnough range packets before after × NoneShorter range packets
    × (parts : List ItemOutput) × IsConversion range carry packets parts
    × OutputsText out out' (λ text. text ≡ text_of parts) × NamesItems true err_ok err err' (lines_of parts) × (clean ≡ are_clean parts)

-- What is written and named: all that the packets become; after a failed write what the items before became, and a front of what
-- the one at hand became, and no more is read; where no more can be read, what the packets read so far become; at a packet that is
-- too long, what stands before it; where memory is wanting, nothing.
abbrev pub ConvertEnds : PacketRange → Carry → Result Bool Fault → Bool → Known Input → Known Input → Known Output → Known Output → Known Output → Known Output → Type 0
ConvertEnds range carry (Ok clean) err_ok before after out out' err err' = WritesAll range carry clean err_ok before after out out' err err'
ConvertEnds range carry (Err faults.Write) err_ok before after out out' err err' =
    (items : List CollectorItem) × (item : CollectorItem) × (last : CollectorState) × ReadsTo range items item last before after
    × (parts : List ItemOutput) × (part : ItemOutput) × ConvertsAll carry (first_of last) (items ++ item ∷ []) (parts ++ part ∷ [])
    × OutputsText out out' (IsPrefixBehind (text_of parts) part.out) × NamesItems true err_ok err err' (lines_of parts)
ConvertEnds range carry (Err (faults.PacketSize number)) err_ok before after out out' err err' =
    (items : List CollectorItem) × (item : CollectorItem) × (last : CollectorState) × ReadsTo range items item last before after × IsTooLarge carry item number
    × (parts : List ItemOutput) × ConvertsAll carry (first_of last) items parts
    × OutputsText out out' (λ text. text ≡ text_of parts) × NamesItems true err_ok err err' (lines_of parts)
ConvertEnds range carry (Err faults.Read) err_ok before after out out' err err' = ConversionEndsEarly range carry stops.Read err_ok before after out out' err err'
ConvertEnds range carry (Err (faults.Capture fault)) err_ok before after out out' err err' = ConversionEndsEarly range carry (stops.Capture fault) err_ok before after out out' err err'
ConvertEnds range carry (Err faults.CaptureTooLong) err_ok before after out out' err err' = ConversionEndsEarly range carry stops.TooLong err_ok before after out out' err err'
ConvertEnds range carry (Err faults.NoMemory) err_ok before after out out' err err' = (after ≡ before) × (out' ≡ out) × (err' ≡ err)
ConvertEnds range carry (Err fault) err_ok before after out out' err err' = ⊥

-- a front of what some items become under the carry
abbrev pub IsPrefixOfParts : Carry → List ℕ → Type 0
IsPrefixOfParts carry text = (first : ℕ) × (items : List CollectorItem) × (parts : List ItemOutput) × ConvertsAll carry first items parts × IsPrefix (text_of parts) text

-- Where out tells, it got what some packets become: all of it, which is as clean as the run says, or a front.
abbrev pub ConvertIsSound : PacketRange → Carry → Result Bool Fault → Known Output → Known Output → Type 0
ConvertIsSound range carry (Ok clean) out out' =
    OutputsText out out' (λ text. (packets : List (List ℕ)) × (parts : List ItemOutput) × IsConversion range carry packets parts × (text ≡ text_of parts) × (clean ≡ are_clean parts))
ConvertIsSound range carry (Err fault) out out' = OutputsText out out' (IsPrefixOfParts carry)

-- ---- when it ends early

-- These are first packets of the capture that the bytes are; where none was taken last, and the collector is finished, all.
abbrev pub AreFirstOf : List (List ℕ) → List ℕ → List (List ℕ) → Type 0
AreFirstOf [] bytes packets = IsCaptureOf bytes packets End
AreFirstOf later bytes packets = (rest : List (List ℕ)) × (why : CaptureEnding) × IsCaptureOf bytes (packets ++ rest) why

-- The packets of the capture that these bytes are give these items first, and then this one, which isn't past the told number.
pub record LeadsTo (range : PacketRange) (bytes : List ℕ) (items : List CollectorItem) (item : CollectorItem) (last : CollectorState) : Type 0 where
  pub packets : List (List ℕ)
  pub at : ComesAt range packets items item last
  pub are : AreFirstOf at.later bytes packets
  pub shorter : NoneShorter range packets
  pub within : is_full range.frame_limit (length items) ≡ false

-- none of them is too large for the carry
abbrev pub AreSmall : Carry → List CollectorItem → Type 0
AreSmall carry items = AllByRecursion (λ item. (number : ℕ) → IsTooLarge carry item number → ⊥) items

-- The first packet that is given of the capture that these bytes are and is too large for the carry has this number.
abbrev pub MeetsTooLarge : PacketRange → Carry → List ℕ → ℕ → Type 0
MeetsTooLarge range carry bytes number =
    (items : List CollectorItem) × (item : CollectorItem) × (last : CollectorState) × LeadsTo range bytes items item last × AreSmall carry items × IsTooLarge carry item number

-- By a fault of the capture exactly where the reading breaks off by it, and no packet before is too large; by the size of a packet
-- exactly where the first one that is too large has that number.
abbrev pub EndsExactly : PacketRange → Carry → List ℕ → Result Bool Fault → Type 0
EndsExactly range carry bytes ending =
    ((why : CaptureEnding) → EndsByIt ending why ↔ (BreaksOffBy range bytes why × ((number : ℕ) → MeetsTooLarge range carry bytes number → ⊥)))
    × ((number : ℕ) → (ending ≡ Err (faults.PacketSize number)) ↔ MeetsTooLarge range carry bytes number)

-- A conversion ends early as any run that reads a capture does, or by the size of a packet.
abbrev pub CanEndConversion : Fault → Type 0
CanEndConversion fault = EndsEarlyOr (Unit {0}) fault

-- The run is done, and all is written and named.
abbrev pub IsConversionDone : PacketRange → Carry → Result Bool Fault → Bool → Known Input → Known Input → Known Output → Known Output → Known Output → Known Output → Type 0
IsConversionDone range carry ending err_ok before after out out' err err' =
    (clean : Bool) × (ending ≡ Ok clean) × WritesAll range carry clean err_ok before after out out' err err'

-- A run of `convert`.
pub record ConvertRun {I O E : Type 0} (range : PacketRange) (carry : Carry) (ending : Result Bool Fault) (err_ok : Bool)
    (input_known : I → Known Input) (input input' : I)
    (out_known : O → Known Output) (out out' : O)
    (err_known : E → Known Output) (err err' : E) : Type 0 where
  -- It ends well, or for want of memory, by a fault of the capture, by a packet's size, by a failed read or by a failed write.
  pub kind : (fault : Fault) → ending ≡ Err fault → CanEndConversion fault
  pub ends : ConvertEnds range carry ending err_ok (input_known input) (input_known input') (out_known out) (out_known out') (err_known err) (err_known err')
  -- Whatever the input tells, out got nothing else than what packets become.
  pub sound : ConvertIsSound range carry ending (out_known out) (out_known out')
  -- After want of memory nothing was read, written or named.
  pub untouched : ending ≡ Err faults.NoMemory → (input' ≡ input) × (out' ≡ out) × (err' ≡ err)
  -- It ends by a fault of the capture, or by a packet's size, exactly where the input has it, unless a read or a write failed before.
  pub exactly : (ending ≡ Err faults.Read → ⊥) → (ending ≡ Err faults.Write → ⊥)
      → InputsBytes (input_known input) (input_known input') (λ left _. UnlessMemory ending (EndsExactly range carry left ending))
  -- Where no read and no write failed, the reading doesn't break off and no packet is too large, all is written and named.
  pub complete : (HasFailed (input_known input) (input_known input') → ⊥) → (HasFailed (out_known out) (out_known out') → ⊥)
      → InputsBytes (input_known input) (input_known input') (λ left _.
      ((why : CaptureEnding) → BreaksOffBy range left why → ⊥) → ((number : ℕ) → MeetsTooLarge range carry left number → ⊥)
      → UnlessMemory ending (IsConversionDone range carry ending err_ok (input_known input) (input_known input') (out_known out) (out_known out') (err_known err) (err_known err')))
  -- A count of faults rose, by one, exactly where a read or a write ended the run.
  pub read_cause : HasCause (input_known input) (input_known input') (ending ≡ Err faults.Read)
  pub write_cause : HasCause (out_known out) (out_known out') (ending ≡ Err faults.Write)
