-- What a writer of a frame must have, and what is written by it.
use Rattle.std.specs.Prelude.{ℕ, ◌≡◌, ◌+◌, ◌<◌, ◌≤◌, false, List, [], All, length, Some}
use Rattle.mdi_items.specs.declared.writer.MdiWriter.{MdiWriter}
use Rattle.mdi_items.specs.Names.{sdc_, str}
use Rattle.mdi_items.specs.Written.{written, behind, next}
use Rattle.drm_schedule.specs.declared.live.Live.{Live}
use Rattle.drm_schedule.specs.declared.config.Config.{Config}
use Rattle.drm_schedule.specs.declared.plan.Plan.{Plan}
use Rattle.drm_schedule.specs.declared.stream.Stream.{Stream}
use Rattle.drm_schedule.specs.Ranges.{ConfigInLines, StreamInLines}
use Rattle.drm_schedule.specs.Valid.{is_short}
use Rattle.drm_timeline.specs.Standing.{config_of}
use Rattle.mdi_items.specs.RoundTrip.{Parts, IsWrittenOf}
use Rattle.live_streams.specs.Live.{streams_with}
use Rattle.drm_server.specs.Frames.{IsFrameAt}

-- The writer has written nothing, and has so many bytes.
pub record IsNewWriter (bytes : ℕ) (w : MdiWriter) : Type 0 where
  pub first : next w ≡ 0
  pub empty : written w ≡ []
  pub room : bytes ≤ length (behind w)

-- The writer has a head behind it, and nothing behind this place in the order of the names; so many bytes are left.
pub record IsBefore (place bytes : ℕ) (w : MdiWriter) : Type 0 where
  pub head : sdc_ ≤ next w
  pub order : next w ≤ place
  pub room : bytes ≤ length (behind w)

-- The same before stream k.
pub record IsBeforeStream (k bytes : ℕ) (w : MdiWriter) : Type 0 where
  pub stream : k < 4
  pub before : IsBefore (str k) bytes w

-- This configuration holds in super frame sf of a schedule.
pub record HoldsIn (plan : Plan) (sf : ℕ) (c : Config) : Type 0 where
  pub within : sf < plan.length
  pub holds : config_of plan sf ≡ Some c
  pub fits : ConfigInLines c

-- A stream whose file, where it has one, reaches as far as this frame of its configuration.
pub record IsStreamReady (frame : ℕ) (s : Stream) : Type 0 where
  pub fits : StreamInLines s
  pub enough : is_short (frame + 1) s ≡ false

pub record AreReady (frame : ℕ) (streams : List Stream) : Type 0 where
  pub few : length streams ≤ 4
  pub fit : All StreamInLines streams
  pub enough : All (λ (s : Stream). is_short (frame + 1) s ≡ false) streams

-- The bytes are the one spelling of frame t of a schedule, where its live streams have this piece.
abbrev pub IsPayloadWith : Live → List ℕ → Plan → ℕ → List ℕ → Type 0
IsPayloadWith live piece plan t payload =
    (parts : Parts) × IsFrameAt plan t parts × IsWrittenOf (record parts { streams = streams_with live (Some piece) parts.streams }) payload
