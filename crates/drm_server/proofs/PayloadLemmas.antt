-- A payload, put together.
use Rattle.std.proofs.Common.{◌≡◌, ◌+◌, ◌-◌, ◌*◌, ◌/◌, ◌%◌, ◌^◌, ◌==◌, ℕ, List, ◌++◌, length, take, map, Option, Some, option_map, unwrap_or, refl, sym, ap, ◌∙◌, arith, append_assoc, length-drop}
use Rattle.drm_fac.specs.declared.fac.Fac.{Fac}
use Rattle.drm_schedule.specs.declared.live.Live.{Live}
use Rattle.drm_schedule.specs.declared.config.Config.{Config}
use Rattle.drm_schedule.specs.declared.plan.Plan.{Plan}
use Rattle.drm_schedule.specs.declared.stream.Stream.{Stream}
use Rattle.drm_timeline.specs.Standing.{config_of}
use Rattle.drm_timeline.specs.FastAccess.{fac_of}
use Rattle.drm_timeline.specs.Description.{description_of}
use Rattle.mdi_items.specs.declared.writer.MdiWriter.{MdiWriter}
use Rattle.mdi_items.specs.Written.{WrittenItem, written, behind, AreHeadItems, spelling, stream_pieces}
use Rattle.mdi_items.specs.RoundTrip.{Parts, BlockBytes, block_pieces}
use Rattle.mdi_items.proofs.RoundTripLemmas.{spelling-append}
use Rattle.drm_schedule.specs.Contents.{stream_bytes}
use Rattle.live_streams.specs.Live.{streams_with, size_from, piece_size, piece_at}
use Rattle.drm_server.specs.Frames.{HasBlockWhere}
use Rattle.drm_server.specs.Placing.{IsPayloadWith}

-- all that was written
pub front : (w : MdiWriter) (all room : ℕ) → all ≡ length w.into.now → room ≡ length (behind w) → take (all - room) w.into.now ≡ written w
front w all room is left = ap (λ n. take n w.into.now) (omega (arith, is, left, length-drop w.at w.into.now, w.within))

-- how much its live streams have
pub piece_is : (live : Live) (plan : Plan) (t : ℕ) (c : Config) → config_of plan (t / 3) ≡ Some c → piece_at live plan t ≡ size_from live 0 c.streams
piece_is live plan t c holds = ap (λ (o : Option Config). unwrap_or (option_map (piece_size live) o) 0) holds

-- the parts of a frame, and what is written of them
pub payload_is : (live : Live) (piece : List ℕ) (plan : Plan) (t : ℕ) (c : Config) (streams : List Stream) (head after : List ℕ) (block : Option BlockBytes) (fac : Fac) (payload : List ℕ)
    → config_of plan (t / 3) ≡ Some c → streams ≡ c.streams → fac_of plan t ≡ Some fac → AreHeadItems ((plan.dlfc + t) % 2 ^ 32) fac (description_of c) c.mode head
    → HasBlockWhere (t % 3 == 0) plan (t / 3) c.room block → after ≡ head ++ spelling (block_pieces block)
    → payload ≡ after ++ spelling (stream_pieces 0 (streams_with live (Some piece) (map (stream_bytes (t - 3 * c.start)) streams)))
    → IsPayloadWith live piece plan t payload
payload_is live piece plan t c streams head after block fac payload holds same is_fac is_head has after_is is =
    let bytes : List (List ℕ) = map (stream_bytes (t - 3 * c.start)) c.streams in
    let parts : Parts = record { count = (plan.dlfc + t) % 2 ^ 32; fac = fac; mux = description_of c; mode = c.mode; block = block; streams = bytes } in
    let items : List WrittenItem = stream_pieces 0 (streams_with live (Some piece) bytes) in
    let all : payload ≡ head ++ spelling (block_pieces block ++ items) =
    is
    ∙ (ap (λ (l : List Stream). after ++ spelling (stream_pieces 0 (streams_with live (Some piece) (map (stream_bytes (t - 3 * c.start)) l)))) same
    ∙ (ap (λ l. l ++ spelling items) after_is
    ∙ (append_assoc head (spelling (block_pieces block)) (spelling items)
    ∙ ap (λ l. head ++ l) (sym (spelling-append (block_pieces block) items))))) in (
      parts,
      record { config = c; holds = holds; count = refl; fac = is_fac; mux = refl; mode = refl; block = has; streams = refl },
      (head, is_head, all),
    )
