-- The bytes that a stream has of its own in each frame.
use Rattle.std.specs.Prelude.{ℕ, ◌*◌, List, take, drop, replicate}
use Rattle.drm_schedule.specs.declared.stream.Content.{Content}
use Rattle.drm_schedule.specs.declared.stream.Content.TheVariants.{Fill, File}
use Rattle.drm_schedule.specs.declared.stream.Stream.{Stream}
use Rattle.drm_schedule.specs.Sizes.{stream_size}

-- the bytes of a stream in the frame with this number of its configuration
abbrev pub stream_bytes : ℕ → Stream → List ℕ
stream_bytes frame s = of s.content
  where
    of : Content → List ℕ
    of (Fill byte) = replicate (stream_size s) byte
    of (File name bytes) = take (stream_size s) (drop (frame * stream_size s) bytes)
