-- The items that are given of an input.
use Rattle.std.specs.Prelude.{ℕ, ◌≡◌, false, All, List, length}
use Rattle.dcp_collect.specs.declared.taken.Taken.{Taken}
use Rattle.dcp_collect.specs.CollectorState.{CollectorState, made}
use Rattle.dcp_collect.specs.Runs.{CollectorItem, CollectorSteps, CollectorRun}
use Rattle.drm_links.specs.Known.{Known}
use Rattle.drm_links.specs.Source.{Input}
use Rattle.capture_reader.specs.declared.packets.CaptureStop.{CaptureStop}
use Rattle.capture_reader.specs.Front.{IsWhole}
use Rattle.capture_reader.specs.Reading.{ReadingStops}
use Rattle.recv_reading.specs.Packets.{HasEnough, NoneShorter, AreEnough, ComesAt, AreReadBy}
use Rattle.recv_reading.specs.declared.options.PacketRange.{PacketRange}
use Rattle.recv_reading.specs.State.{is_full}

-- These are all: those of a whole run, up to the told number.
pub record GivesAll (range : PacketRange) (items : List CollectorItem) (before after : Known Input) : Type 0 where
  pub packets : List (List ℕ)
  pub enough : AreEnough range packets before after
  pub shorter : NoneShorter range packets
  pub taken : List Taken
  pub run : CollectorRun range.window range.reach range.first range.frame_limit packets taken items

-- No more can be read for this reason, and these are given before.
pub record GivesUntil (range : PacketRange) (stop : CaptureStop) (items : List CollectorItem) (before after : Known Input) : Type 0 where
  pub packets : List (List ℕ)
  pub whole : All IsWhole packets
  pub stops : ReadingStops packets stop before after
  pub lacks : HasEnough range packets → ⊥
  pub shorter : NoneShorter range packets
  pub taken : List Taken
  pub mid : CollectorState
  pub steps : CollectorSteps (made range.window range.reach range.first) packets taken items mid

-- These come first, and then this one, which isn't past the told number.
pub record GivesTo (range : PacketRange) (items : List CollectorItem) (item : CollectorItem) (before after : Known Input) : Type 0 where
  pub last : CollectorState
  pub packets : List (List ℕ)
  pub at : ComesAt range packets items item last
  pub read : AreReadBy at.later packets before after
  pub shorter : NoneShorter range packets
  pub within : is_full range.frame_limit (length items) ≡ false
