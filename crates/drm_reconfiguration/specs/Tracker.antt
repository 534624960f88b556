-- A tracker as data, and its next call as a function of this data and of what was seen.
use Rattle.std.specs.Prelude.{ℕ, ◌≡◌, ◌+◌, ◌<◌, ◌↔◌, ◌==◌, Bool, false, not, ◌&&◌, ◌||◌, if◌then◌else◌, Option, Some, None, List, [], ◌∷◌, length, slice_get}
use Rattle.std.specs.Option.{option_map_or}
use Rattle.drm_reconfiguration.specs.Seen.{is_same, named_by}
use Rattle.drm_reconfiguration.specs.Switches.{StandsBefore}
use Rattle.drm_reconfiguration.specs.declared.seen.Seen.{Seen}
use Rattle.drm_reconfiguration.specs.declared.seen.Signature.{Signature}
use Rattle.drm_reconfiguration.specs.declared.tracker.Before.{Before}
use Rattle.drm_reconfiguration.specs.declared.tracker.Before.TheVariants.{Switch, Resumed}

-- the number of calls, the frame named last while it is ahead, the signature of the last frame, and whether a switch
-- was answered since that frame
pub record TrackerState : Type 0 where
  pub calls : ℕ
  pub named : Option ℕ
  pub signature : Option Signature
  pub switched : Bool

-- before the first call
abbrev pub new_tracker : TrackerState
new_tracker = record { calls = 0; named = None; signature = None; switched = false }

-- whether the item of the next call is the frame named last
abbrev pub is_named : TrackerState → Bool
is_named tracker = option_map_or (λ frame. frame == tracker.calls) tracker.named false

-- a frame is resumed where the last one had another signature and no switch was answered since
abbrev pub resumption : TrackerState → Option Seen → Option Before
resumption tracker None = None
resumption tracker (Some seen) =
    if not tracker.switched && option_map_or (λ last. not (is_same last seen.signature)) tracker.signature false
    then Some (Resumed tracker.calls)
    else None

-- the answer of the next call
abbrev pub answered : TrackerState → Option Seen → Option Before
answered tracker seen = if is_named tracker then Some (Switch tracker.calls) else resumption tracker seen

-- the name that a call leaves: its frame's own, or the one before unless it is used up
abbrev pub name_after : TrackerState → Option ℕ → Option ℕ
name_after tracker (Some frame) = Some frame
name_after tracker None = if is_named tracker then None else tracker.named

-- the tracker after the next call
abbrev pub stepped : TrackerState → Option Seen → TrackerState
stepped tracker None = record {
  calls = tracker.calls + 1;
  named = name_after tracker None;
  signature = tracker.signature;
  switched = tracker.switched || is_named tracker;
}
stepped tracker (Some seen) = record {
  calls = tracker.calls + 1;
  named = name_after tracker (named_by tracker.calls seen);
  signature = Some seen.signature;
  switched = false;
}

-- the answers of one call after another
abbrev pub answers : TrackerState → List (Option Seen) → List (Option Before)
answers tracker [] = []
answers tracker (seen ∷ rest) = answered tracker seen ∷ answers (stepped tracker seen) rest

-- for every list of calls, a new tracker answers call k by what stands before item k in the list, and by nothing else
abbrev pub TellsTheSwitches : Type 0
TellsTheSwitches =
    (items : List (Option Seen)) (k : ℕ) (answer : Option Before)
    → (slice_get (answers new_tracker items) k ≡ Some answer) ↔ ((k < length items) × StandsBefore items k answer)
