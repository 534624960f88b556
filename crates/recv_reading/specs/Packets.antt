-- Which packets of a capture are read, and what a collector gives of them.
use Rattle.std.specs.Prelude.{ℕ, ◌≡◌, ◌<◌, ◌⊎◌, true, List, [], ◌∷◌, ◌++◌, length, take}
use Rattle.dcp_collect.specs.declared.taken.Taken.{Taken}
use Rattle.dcp_collect.specs.CollectorState.{CollectorState, made, ready, after_finish}
use Rattle.dcp_collect.specs.Runs.{CollectorItem, IsItem, CollectorTakes, CollectorSteps}
use Rattle.law_collect.specs.Laws.{GivesSoFar}
use Rattle.drm_links.specs.Known.{Known}
use Rattle.drm_links.specs.Source.{Input, InputsBytes}
use Rattle.capture_reader.specs.Capture.{IsCaptureOf, CaptureEnding, End}
use Rattle.capture_reader.specs.Walking.{WalkerState}
use Rattle.capture_reader.specs.Reading.{HasRead}
use Rattle.recv_reading.specs.declared.options.ReceiveOptions.{ReceiveOptions}
use Rattle.recv_reading.specs.declared.options.PacketRange.{PacketRange}
use Rattle.recv_reading.specs.Values.{packet_range}
use Rattle.recv_reading.specs.State.{is_full}

-- those of a reading that ends with its capture, or by the number of items
abbrev pub range_of : ReceiveOptions → PacketRange
range_of options = packet_range options.window options.reach options.first options.frames

-- ---- which packets are read

-- as many items as are told, or more, are given of these packets
abbrev pub HasEnough : PacketRange → List (List ℕ) → Type 0
HasEnough range packets =
    (taken : List Taken) × (items : List CollectorItem) × (end : CollectorState) × CollectorSteps (made range.window range.reach range.first) packets taken items end
    × (is_full range.frame_limit (length items) ≡ true)

-- fewer packets aren't enough
abbrev pub NoneShorter : PacketRange → List (List ℕ) → Type 0
NoneShorter range packets = (k : ℕ) → k < length packets → HasEnough range (take k packets) → ⊥

-- Enough of them are read, or all.
abbrev pub AreEnough : PacketRange → List (List ℕ) → Known Input → Known Input → Type 0
AreEnough range packets before after =
    (((reader : WalkerState) × HasRead packets reader before after) × HasEnough range packets)
    ⊎ InputsBytes before after (λ left rest. IsCaptureOf left packets End)

-- ---- where an item comes

-- what a collector comes to before it gives what is ready: it takes one packet more, or is finished
abbrev pub ComesTo : PacketRange → List (List ℕ) → CollectorState → CollectorState → Type 0
ComesTo range later mid state =
    ((bytes : List ℕ) × (answer : Taken) × (later ≡ bytes ∷ []) × CollectorTakes mid bytes answer state) ⊎ ((later ≡ []) × (state ≡ after_finish mid range.frame_limit))

-- These are some first items of those that the packets give, and then comes this one.
pub record ComesAt (range : PacketRange) (packets : List (List ℕ)) (items : List CollectorItem) (item : CollectorItem) (last : CollectorState) : Type 0 where
  pub before : List (List ℕ)
  pub later : List (List ℕ)
  pub are : packets ≡ before ++ later
  pub taken : List Taken
  pub during : List CollectorItem
  pub mid : CollectorState
  pub steps : CollectorSteps (made range.window range.reach range.first) before taken during mid
  pub state : CollectorState
  pub comes : ComesTo range later mid state
  pub more : List CollectorItem
  pub gives : GivesSoFar state more last
  pub items_are : items ≡ during ++ more
  pub is_ready : ready last ≡ true
  pub is_next : IsItem last item

-- Of the input these packets are read: where the collector took the later ones of them last, first ones; where it was finished, all.
abbrev pub AreReadBy : List (List ℕ) → List (List ℕ) → Known Input → Known Input → Type 0
AreReadBy [] packets before after = InputsBytes before after (λ left rest. IsCaptureOf left packets End)
AreReadBy later packets before after = (reader : WalkerState) × HasRead packets reader before after

-- ---- when it ends early

-- The bytes end so behind their packets, by a fault, and neither all of these packets nor fewer of them are enough.
pub record BreaksOffBy (range : PacketRange) (bytes : List ℕ) (why : CaptureEnding) : Type 0 where
  pub packets : List (List ℕ)
  pub is : IsCaptureOf bytes packets why
  pub faulty : why ≡ End → ⊥
  pub lacks : HasEnough range packets → ⊥
  pub shorter : NoneShorter range packets
