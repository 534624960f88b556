-- Where datagrams come from: a link, or the packets of a capture.
use Rattle.std.specs.Prelude.{ℕ, ◌≡◌, ◌⊎◌, All, List, [], ◌∷◌, ◌++◌, map, Option, Result, Ok, Err}
use Rattle.drm_links.specs.Known.{Known}
use Rattle.drm_links.specs.Link.{Answer, Datagram, Failed, End, Traffic}
use Rattle.drm_links.specs.Hearing.{LinkHeard}
use Rattle.drm_links.specs.Source.{Input, InputsBytes}
use Rattle.capture_reader.specs.declared.packets.CaptureStop.{CaptureStop}
use Rattle.capture_reader.specs.declared.packets.CaptureStop.TheVariants as stops
use Rattle.capture_reader.specs.Front.{IsWhole}
use Rattle.capture_reader.specs.Capture as capture
use Rattle.capture_reader.specs.Walking.{WalkerState}
use Rattle.capture_reader.specs.Reading.{HasRead, ReadingStops}
use Rattle.dcp_collect.specs.declared.taken.Taken.{Taken}
use Rattle.recv_reading.specs.declared.source.SourceFault.{SourceFault}
use Rattle.recv_reading.specs.declared.source.SourceFault.TheVariants as faults

-- ---- a capture

-- what comes behind its packets
abbrev pub ending_answer : capture.CaptureEnding → Answer
ending_answer capture.End = End
ending_answer (capture.Fault fault) = Failed
ending_answer capture.TooLong = Failed

-- its packets, each as a datagram, and then that nothing comes any more, or a failure
abbrev pub answers_of : List (List ℕ) → capture.CaptureEnding → List Answer
answers_of packets ending = map Datagram packets ++ ending_answer ending ∷ []

-- These bytes bring these answers.
pub record BytesBring (bytes : List ℕ) (ahead : List Answer) : Type 0 where
  pub packets : List (List ℕ)
  pub ending : capture.CaptureEnding
  pub is : capture.IsCaptureOf bytes packets ending
  pub ahead_is : ahead ≡ answers_of packets ending

-- These answers came of an input by this reader: packets that it begins with; or all of it, and that nothing comes any more.
abbrev pub ReadSoFar : WalkerState → Known Input → Known Input → List Answer → Type 0
ReadSoFar reader before after answers =
    (packets : List (List ℕ))
    × ((HasRead packets reader before after × (answers ≡ map Datagram packets))
    ⊎ (InputsBytes before after (λ left rest. capture.IsCaptureOf left packets capture.End) × (answers ≡ map Datagram packets ++ End ∷ [])))

abbrev pub HeardOf : Known Input → Known Input → List Answer → Type 0
HeardOf before after answers = (reader : WalkerState) × ReadSoFar reader before after answers

-- These answers came of an input of which no more can be read for this reason.
abbrev pub HeardUntil : CaptureStop → Known Input → Known Input → List Answer → Type 0
HeardUntil stop before after answers =
    (packets : List (List ℕ)) × All IsWhole packets × ReadingStops packets stop before after × (answers ≡ map Datagram packets ++ Failed ∷ [])

abbrev pub StopsReading : SourceFault → Known Input → Known Input → List Answer → Type 0
StopsReading faults.Link before after answers = ⊥
StopsReading (faults.Capture stop) before after answers = HeardUntil stop before after answers

-- ---- a link

abbrev pub BreaksLink : SourceFault → Known Traffic → Known Traffic → List Answer → Type 0
BreaksLink faults.Link before after answers = LinkHeard before after answers
BreaksLink (faults.Capture stop) before after answers = ⊥

-- ---- a failed call

abbrev pub IsOfLink : SourceFault → Type 0
IsOfLink faults.Link = Unit {0}
IsOfLink (faults.Capture stop) = ⊥

abbrev pub IsOfCapture : SourceFault → Type 0
IsOfCapture faults.Link = ⊥
IsOfCapture (faults.Capture stop) = Unit {0}

-- a call of the link or of the input failed
abbrev pub IsFailedCall : Result (Option Taken) SourceFault → Type 0
IsFailedCall (Ok answer) = ⊥
IsFailedCall (Err faults.Link) = Unit {0}
IsFailedCall (Err (faults.Capture stops.Read)) = Unit {0}
IsFailedCall (Err (faults.Capture other)) = ⊥
