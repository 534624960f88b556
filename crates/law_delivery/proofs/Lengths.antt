-- A packet has the bytes that are counted for it.
use Rattle.std.proofs.Common.{ℕ, zero, suc, ◌≡◌, ◌+◌, ◌-◌, ◌*◌, ◌/◌, ◌%◌, ◌<◌, ◌≤◌, ◌==◌, Bool, true, false, if◌then◌else◌, List, [], ◌∷◌, ◌++◌, map, replicate, length, sum_by, All, Option, Some, refl, sym, ap, ◌∙◌, arith, length-append}
use Rattle.std.specs.Prelude.{codes}
use Rattle.std.specs.Int.{w16, w32, to_be_bytes}
use Rattle.std.proofs.lemmas.List.Elements.{All-head, All-tail}
use Rattle.std.proofs.lemmas.List.Sums.{sum_by-cons}
use Rattle.dcp_af.specs.Packet.{AfPacket, IsAf, head as af_head}
use Rattle.dcp_tag.specs.Tag.{head as tag_head}
use Rattle.drm_bits.specs.declared.description.MuxDesc.{MuxDesc}
use Rattle.drm_fac.specs.declared.fac.Fac.{Fac}
use Rattle.drm_mux.proofs.SdciLemmas.{length-value}
use Rattle.drm_schedule.specs.declared.config.Config.{Config}
use Rattle.drm_fac.specs.declared.mode.Mode.{Mode}
use Rattle.drm_schedule.specs.declared.plan.Plan.{Plan}
use Rattle.drm_schedule.specs.declared.stream.Stream.{Stream}
use Rattle.drm_schedule.specs.Sizes.{packet_len, stream_size}
use Rattle.drm_schedule.specs.Valid.{IsSchedule, is_short}
use Rattle.drm_fac.specs.Mode.{mode_code}
use Rattle.mdi_items.specs.Names.{name_at, ptr, dlfc, fac_, sdci, robm, str}
use Rattle.mdi_items.specs.Written.{WrittenItem, AreHeadItems, spelled, spelling, whole, block_piece, stream_pieces}
use Rattle.mdi_items.specs.RoundTrip.{Parts, BlockBytes, IsWrittenOf, block_pieces}
use Rattle.mdi_items.proofs.RoundTripLemmas.{spelling-append}
use Rattle.drm_timeline.specs.Standing.{config_of}
use Rattle.drm_schedule.specs.Contents.{stream_bytes}
use Rattle.drm_server.specs.Frames.{HasBlockWhere, IsFrameAt, IsPacketAt}
use Rattle.drm_timeline.proofs.FilesReach.{files_reach, frame_reached}
use Rattle.drm_timeline.specs.Numbers.{frame_count, packet_size, sequence_number}
use Rattle.drm_timeline.proofs.PacketSizes.{size_is}
use Rattle.drm_server.proofs.PieceLemmas.{stream_length}
use Rattle.law_delivery.proofs.Configurations.{IsConfig, config_is, faultless}

-- the files of the configuration that holds reach to the end of each frame
pub are_long : (plan : Plan) (t : ℕ) (c : Config) → IsSchedule plan → t < frame_count plan → IsConfig plan (t / 3) c → (holds : config_of plan (t / 3) ≡ Some c)
    → All (λ (s : Stream). is_short (t - 3 * c.start + 1) s ≡ false) c.streams
are_long plan t c is within config holds =
    frame_reached t c (omega (arith, config.started)) (files_reach plan (t / 3) plan.configs c (faultless plan is) (omega (arith, within)) holds)

name_long : (k : ℕ) → k < 4 → length (name_at (str k)) ≡ 4
name_long zero lt = refl
name_long (suc zero) lt = refl
name_long (suc (suc zero)) lt = refl
name_long (suc (suc (suc zero))) lt = refl
name_long (suc (suc (suc (suc k)))) lt = absurd (omega (arith, lt))

-- a piece has the four bytes of its name, four of its length, and its value's
piece_length : (p : WrittenItem) → length (name_at p.place) ≡ 4 → length (spelled p) ≡ 8 + length p.value
piece_length p four = omega (arith, four, length-append (tag_head (name_at p.place) p.bits) p.value, length-append (name_at p.place) (to_be_bytes w32 p.bits))

streams_length : (frame j : ℕ) (streams : List Stream) → All (λ (s : Stream). is_short (frame + 1) s ≡ false) streams → j + length streams ≤ 4
    → length (spelling (stream_pieces j (map (stream_bytes frame) streams))) ≡ sum_by (λ s. 8 + stream_size s) streams
streams_length frame j [] enough few = refl
streams_length frame j (s ∷ streams) enough few =
    let here : length (stream_bytes frame s) ≡ stream_size s = stream_length frame s (All-head (λ (s : Stream). is_short (frame + 1) s ≡ false) s streams enough) in
    let piece : length (spelled (whole (str j) (stream_bytes frame s))) ≡ 8 + length (stream_bytes frame s) =
    piece_length (whole (str j) (stream_bytes frame s)) (name_long j (omega (arith, few))) in
    let rest = streams_length frame (j + 1) streams (All-tail (λ (s : Stream). is_short (frame + 1) s ≡ false) s streams enough) (omega (arith, few)) in
    omega (
      arith,
      here,
      piece,
      rest,
      length-append (spelled (whole (str j) (stream_bytes frame s))) (spelling (stream_pieces (j + 1) (map (stream_bytes frame) streams))),
      sum_by-cons (λ (s : Stream). 8 + stream_size s) s streams,
    )

-- five pieces
five_long : (a b c d e : WrittenItem) → length (spelling (a ∷ b ∷ c ∷ d ∷ e ∷ [])) ≡ length (spelled a) + (length (spelled b) + (length (spelled c) + (length (spelled d) + length (spelled e))))
five_long a b c d e =
    omega (
      arith,
      length-append (spelled a) (spelling (b ∷ c ∷ d ∷ e ∷ [])),
      length-append (spelled b) (spelling (c ∷ d ∷ e ∷ [])),
      length-append (spelled c) (spelling (d ∷ e ∷ [])),
      length-append (spelled d) (spelling (e ∷ [])),
      length-append (spelled e) [],
    )

-- the items that stand at the front of each frame
pub head_long : (count : ℕ) (fac : Fac) (mux : MuxDesc) (mode : Mode) (bytes : List ℕ) → AreHeadItems count fac mux mode bytes → length bytes ≡ 63 + 3 * mux.count
head_long count fac mux mode bytes is =
    let a : WrittenItem = whole ptr (codes "DMDI" ++ replicate 4 0) in
    let b : WrittenItem = whole dlfc (to_be_bytes w32 count) in
    let c : WrittenItem = whole fac_ is.fac_bytes in
    let d : WrittenItem = whole sdci is.description in
    let e : WrittenItem = whole robm (mode_code mode ∷ []) in
    omega (
      arith,
      ap length is.are,
      five_long a b c d e,
      piece_length a refl,
      piece_length b refl,
      piece_length c refl,
      piece_length d refl,
      piece_length e refl,
      is.is_fac.nine,
      length-value mux is.description is.is_description,
    )

-- the block of the first frame of a super frame
pub block_long : (first : Bool) (plan : Plan) (sf room : ℕ) (block : Option BlockBytes) → HasBlockWhere first plan sf room block
    → length (spelling (block_pieces block)) ≡ (if first then room + 11 else 0)
block_long true plan sf room block (b, is, at) =
    ap (λ (o : Option BlockBytes). length (spelling (block_pieces o))) is
    ∙ omega (arith, at.size, length-append (spelled (block_piece b.bits b.value)) [], piece_length (block_piece b.bits b.value) refl)
block_long false plan sf room block is = ap (λ (o : Option BlockBytes). length (spelling (block_pieces o))) is

payload_long : (plan : Plan) (t : ℕ) (parts : Parts) (payload : List ℕ) (frame : IsFrameAt plan t parts) → IsWrittenOf parts payload
    → All (λ (s : Stream). is_short (t - 3 * frame.config.start + 1) s ≡ false) frame.config.streams → length frame.config.streams ≤ 4
    → 12 + length payload ≡ packet_len frame.config (t % 3 == 0)
payload_long plan t parts payload frame (front, is_head, are) enough few =
    let c : Config = frame.config in
    let block : List WrittenItem = block_pieces parts.block in
    let streams : List WrittenItem = stream_pieces 0 parts.streams in
    let head : length front ≡ 63 + 3 * length c.streams =
    head_long parts.count parts.fac parts.mux parts.mode front is_head ∙ ap (λ (d : MuxDesc). 63 + 3 * d.count) frame.mux in
    let of_block : length (spelling block) ≡ (if t % 3 == 0 then c.room + 11 else 0) = block_long (t % 3 == 0) plan (t / 3) c.room parts.block frame.block in
    let of_streams : length (spelling streams) ≡ sum_by (λ s. 8 + stream_size s) c.streams =
    ap (λ (l : List (List ℕ)). length (spelling (stream_pieces 0 l))) frame.streams ∙ streams_length (t - 3 * c.start) 0 c.streams enough (omega (arith, few)) in
    let rest : length (spelling (block ++ streams)) ≡ length (spelling block) + length (spelling streams) =
    ap length (spelling-append block streams) ∙ length-append (spelling block) (spelling streams) in
    let all : length payload ≡ length front + length (spelling (block ++ streams)) = ap length are ∙ length-append front (spelling (block ++ streams)) in
    omega (arith, head, of_block, of_streams, rest, all)

-- a packet has twelve bytes more than its payload
pub af_long : (p : AfPacket) (packet : List ℕ) → IsAf p packet → length packet ≡ 12 + length p.payload
af_long p packet (check, ends, checks) =
    omega (arith, ap length ends.spelled, length-append (af_head p ++ p.payload) (to_be_bytes w16 check), length-append (af_head p) p.payload)

-- the packet of each frame has the bytes that are counted for it
pub packet_long : (plan : Plan) (t : ℕ) (packet : List ℕ) → IsSchedule plan → t < frame_count plan → IsPacketAt plan t packet → length packet ≡ packet_size plan t
packet_long plan t packet is within packet_is =
    let frame = packet_is.frame in
    let c : Config = frame.config in
    let config = config_is plan is (t / 3) c frame.holds in
    let payload = payload_long plan t packet_is.parts packet_is.payload frame packet_is.written (are_long plan t c is within config frame.holds) config.fits.few_streams in
    let size : packet_size plan t ≡ packet_len c (t % 3 == 0) = size_is plan t c frame.holds in
    af_long (record { seq = sequence_number plan t; checked = true; minor = 0; payload = packet_is.payload }) packet packet_is.is ∙ (payload ∙ sym size)
