-- A schedule of which some streams have, frame by frame, bytes that came from outside.
use Rattle.std.specs.Prelude.{ℕ, ◌≡◌, ◌+◌, ◌-◌, ◌*◌, ◌/◌, if◌then◌else◌, List, [], ◌∷◌, codes, length, map, take, drop, slice_index_or, option_map, Option, None, Some, unwrap_or}
use Rattle.std.specs.List.{flat_map, range_with_len}
use Rattle.drm_schedule.specs.declared.live.Live.{Live}
use Rattle.drm_schedule.specs.declared.stream.Content.TheVariants.{File}
use Rattle.drm_schedule.specs.declared.stream.Stream.{Stream}
use Rattle.drm_schedule.specs.declared.config.Config.{Config}
use Rattle.drm_schedule.specs.declared.plan.Plan.{Plan}
use Rattle.drm_schedule.specs.Contents.{stream_bytes}
use Rattle.drm_schedule.specs.Live.{is_live}
use Rattle.drm_schedule.specs.Sizes.{stream_size}
use Rattle.drm_schedule.specs.Valid.{end_before}
use Rattle.drm_timeline.specs.Standing.{config_of}

-- ---- a frame

-- the bytes that the streams of a configuration have of their own in its frame with this number
abbrev pub own_streams : Config → ℕ → List (List ℕ)
own_streams c frame = map (stream_bytes frame) c.streams

-- These streams, the first of which has number k: each live one has the next bytes of a piece, as many as it has of its own, and
-- each other one has its own.
abbrev pub given_from : Live → ℕ → List ℕ → List (List ℕ) → List (List ℕ)
given_from live k piece [] = []
given_from live k piece (own ∷ streams) =
    if is_live live k then take (length own) piece ∷ given_from live (k + 1) (drop (length own) piece) streams
    else own ∷ given_from live (k + 1) piece streams

-- the streams of a frame for which this piece came, or none
abbrev pub streams_with : Live → Option (List ℕ) → List (List ℕ) → List (List ℕ)
streams_with live None own = own
streams_with live (Some piece) own = given_from live 0 piece own

-- how many bytes the live ones of these streams have in each frame, where the first one has number k
abbrev pub size_from : Live → ℕ → List Stream → ℕ
size_from live k [] = 0
size_from live k (s ∷ streams) = (if is_live live k then stream_size s else 0) + size_from live (k + 1) streams

-- the bytes of the piece of each frame of a configuration
abbrev pub piece_size : Live → Config → ℕ
piece_size live c = size_from live 0 c.streams

-- the bytes of the piece of frame t of a schedule
abbrev pub piece_at : Live → Plan → ℕ → ℕ
piece_at live plan t = unwrap_or (option_map (piece_size live) (config_of plan (t / 3))) 0

-- ---- a schedule

-- the piece that came for each frame of a schedule, where one did
abbrev pub LivePieces : Type 0
LivePieces = ℕ → Option (List ℕ)

-- the bytes of stream k in so many frames of a configuration, one frame after another
abbrev pub bytes_with : Live → LivePieces → Config → ℕ → ℕ → List ℕ
bytes_with live given c frames k =
    flat_map (λ n. slice_index_or (streams_with live (given (3 * c.start + n)) (own_streams c n)) k []) (range_with_len 0 frames)

-- a live stream has these as the bytes of a file; any other one is as it is
abbrev pub stream_with : Live → LivePieces → Config → ℕ → ℕ → Stream → Stream
stream_with live given c frames k s = if is_live live k then record s { content = File (codes "live") (bytes_with live given c frames k) } else s

-- those from the k-th on
abbrev pub streams_from : Live → LivePieces → Config → ℕ → ℕ → List Stream → List Stream
streams_from live given c frames k [] = []
streams_from live given c frames k (s ∷ streams) = stream_with live given c frames k s ∷ streams_from live given c frames (k + 1) streams

-- a configuration of so many frames
abbrev pub config_with : Live → LivePieces → ℕ → Config → Config
config_with live given frames c = record c { streams = streams_from live given c frames 0 c.streams }

-- each of these configurations, in a schedule of this length
abbrev pub configs_with : Live → LivePieces → ℕ → List Config → List Config
configs_with live given len [] = []
configs_with live given len (c ∷ more) = config_with live given (3 * (end_before len more - c.start)) c ∷ configs_with live given len more

-- The schedule whose live streams have, frame by frame, the pieces that came, and their own bytes where none came.
unfoldable pub live_schedule : Live → LivePieces → Plan → Plan
live_schedule live given plan = record plan { configs = configs_with live given plan.length plan.configs }

-- Each piece is as long as that of its frame.
abbrev pub AreWhole : Live → LivePieces → Plan → Type 0
AreWhole live given plan = (t : ℕ) (piece : List ℕ) → given t ≡ Some piece → length piece ≡ piece_at live plan t
