-- The streams of a frame, one after another, where live ones have the bytes of a piece.
use Rattle.std.proofs.Common.{◌≡◌, ◌≤◌, ◌+◌, ◌*◌, ℕ, false, List, length, drop, map, refl, arith, length-drop}
use Rattle.std.proofs.lemmas.Bool.{ltb-false}
use Rattle.std.proofs.lemmas.List.{length-replicate, length-take-le}
use Rattle.mdi_items.specs.Written.{spelling, stream_pieces}
use Rattle.drm_schedule.specs.declared.live.Live.{Live}
use Rattle.drm_schedule.specs.declared.stream.Content.{Content}
use Rattle.drm_schedule.specs.declared.stream.Content.TheVariants.{Fill, File}
use Rattle.drm_schedule.specs.declared.stream.Stream.{Stream}
use Rattle.drm_schedule.specs.Contents.{stream_bytes}
use Rattle.drm_schedule.specs.Sizes.{stream_size}
use Rattle.drm_schedule.specs.Valid.{is_short}
use Rattle.live_streams.specs.Live.{given_from}

-- each stream has its bytes, where its file is long enough
pub stream_length : (frame : ℕ) (s : Stream) → is_short (frame + 1) s ≡ false → length (stream_bytes frame s) ≡ stream_size s
stream_length frame s enough = by s.content refl
  where
    by : (content : Content) → s.content ≡ content → length (stream_bytes frame s) ≡ stream_size s
    by (Fill byte) is = rw is (length-replicate (stream_size s) byte)
    by (File name bytes) is =
        let long : stream_size s * (frame + 1) ≤ length bytes = ltb-false (length bytes) (stream_size s * (frame + 1)) (rw is at enough) in
        rw is (length-take-le (stream_size s) (drop (frame * stream_size s) bytes) (omega (arith, long, length-drop (frame * stream_size s) bytes)))

module _ (live : Live) (frame : ℕ) where
  -- the streams from the k-th on, with what is left of a piece
  abbrev pub left_with : ℕ → List ℕ → List Stream → List ℕ
  left_with k left streams = spelling (stream_pieces k (given_from live k left (map (stream_bytes frame) streams)))
