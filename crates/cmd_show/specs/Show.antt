-- The command `show`: what is in each packet of a capture.
use Rattle.std.specs.Prelude.{ℕ, ◌≡◌, ◌+◌, ◌⊎◌, All, Bool, not, List, [], ◌∷◌, ◌++◌, length, Result, Ok, Err}
use Rattle.std.specs.List.{concat, flat_map, list_all}
use Rattle.drm_links.specs.Known.{HasFailed, Known, HasCause}
use Rattle.drm_links.specs.Source.{Input, InputsBytes}
use Rattle.drm_links.specs.Sink.{Output, OutputsText, IsPrefix, IsPrefixBehind}
use Rattle.capture_reader.specs.declared.packets.CaptureStop.{CaptureStop}
use Rattle.capture_reader.specs.declared.packets.CaptureStop.TheVariants as stops
use Rattle.capture_reader.specs.Front.{IsWhole}
use Rattle.capture_reader.specs.Capture as capture
use Rattle.capture_reader.specs.Walking.{WalkerState}
use Rattle.capture_reader.specs.Reading.{HasRead, ReadingStops}
use Rattle.report_dump.specs.Text.{IsPacketText}
use Rattle.report_dump.specs.Lines.{end_packets_line}
use Rattle.cmd_faults.specs.Captures.{EndsEarly}
use Rattle.cmd_faults.specs.Fault.{UnlessMemory}
use Rattle.cmd_faults.specs.declared.fault.Fault.{Fault}
use Rattle.cmd_faults.specs.declared.fault.Fault.TheVariants as faults

-- the lines of a packet, and whether one of them says what is wrong
pub record PacketText : Type 0 where
  pub text : List ℕ
  pub bad : Bool

-- These are the texts of packets, the first of which stands at this byte.
abbrev pub AreTexts : ℕ → List (List ℕ) → List PacketText → Type 0
AreTexts at [] [] = Unit {0}
AreTexts at (packet ∷ packets) (shown ∷ others) = IsPacketText at packet shown.text shown.bad × AreTexts (at + length packet) packets others
AreTexts at packets texts = ⊥

-- one after another
abbrev pub all_texts : List PacketText → List ℕ
all_texts texts = flat_map (λ t. t.text) texts

-- the whole text of a capture
abbrev pub capture_text : List (List ℕ) → List PacketText → List ℕ
capture_text packets texts = all_texts texts ++ end_packets_line (length packets) (length (concat packets))

-- no line says what is wrong
abbrev pub are_clean : List PacketText → Bool
are_clean texts = list_all (λ t. not t.bad) texts

-- Packets, their texts, and how what was left of the input ends behind them.
pub record IsShown (left : List ℕ) (ending : capture.CaptureEnding) (packets : List (List ℕ)) (texts : List PacketText) : Type 0 where
  pub is : capture.IsCaptureOf left packets ending
  pub are : AreTexts 0 packets texts

-- All packets of the input are read, and the whole text is written.
abbrev pub WritesAll : Bool → Known Input → Known Input → Known Output → Known Output → Type 0
WritesAll clean before after out out' =
    (packets : List (List ℕ)) × (texts : List PacketText) × AreTexts 0 packets texts
    × InputsBytes before after (λ left _. capture.IsCaptureOf left packets capture.End)
    × OutputsText out out' (λ text. text ≡ capture_text packets texts) × (clean ≡ are_clean texts)

-- No more can be read for this reason: the texts of the packets that are whole in the bytes taken are written.
abbrev pub WritesUntil : CaptureStop → Known Input → Known Input → Known Output → Known Output → Type 0
WritesUntil stop before after out out' =
    (packets : List (List ℕ)) × (texts : List PacketText) × AreTexts 0 packets texts
    × All IsWhole packets × ReadingStops packets stop before after
    × OutputsText out out' (λ text. text ≡ all_texts texts)

-- A write failed. The texts of some packets are written and a front of that of the next one, which is the last that was read; or
-- those of all packets, and a front of the last line.
abbrev pub WritesPrefix : Known Input → Known Input → Known Output → Known Output → Type 0
WritesPrefix before after out out' =
    (packets : List (List ℕ)) × (texts : List PacketText)
    × (((packet : List ℕ) × (shown : PacketText) × AreTexts 0 (packets ++ packet ∷ []) (texts ++ shown ∷ [])
    × ((reader : WalkerState) × HasRead (packets ++ packet ∷ []) reader before after)
    × OutputsText out out' (IsPrefixBehind (all_texts texts) shown.text))
    ⊎ (AreTexts 0 packets texts × InputsBytes before after (λ left _. capture.IsCaptureOf left packets capture.End)
    × OutputsText out out' (IsPrefixBehind (all_texts texts) (end_packets_line (length packets) (length (concat packets))))))

-- What is read and written; where memory is wanting, nothing.
abbrev pub ShowEnds : Result Bool Fault → Known Input → Known Input → Known Output → Known Output → Type 0
ShowEnds (Ok clean) before after out out' = WritesAll clean before after out out'
ShowEnds (Err faults.Write) before after out out' = WritesPrefix before after out out'
ShowEnds (Err faults.Read) before after out out' = WritesUntil stops.Read before after out out'
ShowEnds (Err (faults.Capture fault)) before after out out' = WritesUntil (stops.Capture fault) before after out out'
ShowEnds (Err faults.CaptureTooLong) before after out out' = WritesUntil stops.TooLong before after out out'
ShowEnds (Err faults.NoMemory) before after out out' = (after ≡ before) × (out' ≡ out)
ShowEnds (Err fault) before after out out' = ⊥

-- the whole text of some packets, and whether no line of it says what is wrong
abbrev pub IsWholeText : Bool → List ℕ → Type 0
IsWholeText clean text =
    (packets : List (List ℕ)) × All IsWhole packets × (texts : List PacketText) × AreTexts 0 packets texts
    × (text ≡ capture_text packets texts) × (clean ≡ are_clean texts)

abbrev pub IsPrefixOfText : List ℕ → Type 0
IsPrefixOfText text = (clean : Bool) × (whole : List ℕ) × IsWholeText clean whole × IsPrefix whole text

-- Where out tells, it got a text of packets: a whole one, which is as clean as the run says, or the front of one.
abbrev pub ShowIsSound : Result Bool Fault → Known Output → Known Output → Type 0
ShowIsSound (Ok clean) out out' = OutputsText out out' (IsWholeText clean)
ShowIsSound (Err fault) out out' = OutputsText out out' IsPrefixOfText

-- the run ends as the bytes end behind their packets
abbrev pub EndsByIt : Result Bool Fault → capture.CaptureEnding → Type 0
EndsByIt ending capture.End = (clean : Bool) × (ending ≡ Ok clean)
EndsByIt ending (capture.Fault fault) = ending ≡ Err (faults.Capture fault)
EndsByIt ending capture.TooLong = ending ≡ Err faults.CaptureTooLong

-- A run of `show`.
pub record ShowRun {I O : Type 0} (ending : Result Bool Fault)
    (input_known : I → Known Input) (input input' : I)
    (out_known : O → Known Output) (out out' : O) : Type 0 where
  -- It ends well, or for want of memory, by a fault of the capture, by a failed read or by a failed write.
  pub kind : (fault : Fault) → ending ≡ Err fault → EndsEarly fault
  -- What is written is the text of the packets that were read. After a failed write no more is read.
  pub ends : ShowEnds ending (input_known input) (input_known input') (out_known out) (out_known out')
  -- Whatever the input tells, out got no other text than one that packets have.
  pub sound : ShowIsSound ending (out_known out) (out_known out')
  -- After want of memory nothing was read or written.
  pub untouched : ending ≡ Err faults.NoMemory → (input' ≡ input) × (out' ≡ out)
  -- It ends as the input does behind its packets, with the byte and the field, unless a read or a write failed before.
  pub exactly : (ending ≡ Err faults.Read → ⊥) → (ending ≡ Err faults.Write → ⊥)
      → InputsBytes (input_known input) (input_known input') (λ left _.
      UnlessMemory ending ((why : capture.CaptureEnding) (packets : List (List ℕ)) → capture.IsCaptureOf left packets why → EndsByIt ending why))
  -- Where no read and no write failed, and the input is a capture, its text is written.
  pub complete : (HasFailed (input_known input) (input_known input') → ⊥) → (HasFailed (out_known out) (out_known out') → ⊥)
      → InputsBytes (input_known input) (input_known input') (λ left _. (packets : List (List ℕ)) (texts : List PacketText)
      → IsShown left capture.End packets texts
      → UnlessMemory ending ((ending ≡ Ok (are_clean texts)) × OutputsText (out_known out) (out_known out') (λ text. text ≡ capture_text packets texts)))
  -- A count of faults rose, by one, exactly where a read or a write ended the run.
  pub read_cause : HasCause (input_known input) (input_known input') (ending ≡ Err faults.Read)
  pub write_cause : HasCause (out_known out) (out_known out') (ending ≡ Err faults.Write)
