use Rattle.std.proofs.Common.{◌≡◌, ◌+◌, ◌%◌, ◌==◌, length, sum_by, ap, ◌∙◌, arith}
use Rattle.drm_schedule.specs.declared.stream.Stream.{Stream}
use Rattle.drm_schedule.specs.Sizes.{packet_len, stream_size}
use Rattle.drm_timeline.proofs.PacketSizes.{size_is}
use Rattle.drm_server.proofs.PayloadLemmas.{front, payload_is}
use Rattle.drm_server.proofs.payload.write_payload.Goals as goal

pub returns-clause-written : goal.returns-clause-written
returns-clause-written c =
    let config = c.config_of_frame-config in
    let h = c.write_head.ensures.written in
    let b = c.write_block_where.ensures.written in
    payload_is c.args.live.now c.args.piece.now c.args.plan.now c.args.t config.result.now c.as_slice.result.now _ _ b.0 h.0 _ config.ensures.config c.as_slice.ensures h.1 h.2 b.1 b.2
    (front c.write_streams.new.writer c.total.result c.room-room.result c.total.ensures.whole_length c.room-room.ensures ∙ c.write_streams.ensures.written)

pub returns-clause-len : goal.returns-clause-len
returns-clause-len c =
    let config = c.config_of_frame-config in
    let len : c.packet_len.result ≡ packet_len config.result.now (c.args.t % 3 == 0) = c.packet_len.ensures.len ∙ size_is c.args.plan.now c.args.t config.result.now config.ensures.config in
    let streams : sum_by (λ (s : Stream). 8 + stream_size s) c.as_slice.result.now ≡ sum_by (λ (s : Stream). 8 + stream_size s) config.result.now.streams = ap (sum_by (λ (s : Stream). 8 + stream_size s)) c.as_slice.ensures in
    omega (arith, len, streams, c.packet_len.ensures.len, c.packet_len.ensures.in_range, c.packet_len.ensures.within, ap length c.new-writer.ensures.behind, c.told-into, c.write_head.ensures.remaining, c.write_block_where.ensures.remaining, c.write_streams.ensures.remaining, c.room-room.ensures, c.total.ensures.known)

pub returns-clause-in_range : goal.returns-clause-in_range
returns-clause-in_range c = omega (arith, returns-clause-len c, c.packet_len.ensures.len, c.packet_len.ensures.in_range)

pub write_streams-requires-clause-place : goal.write_streams-requires-clause-place
write_streams-requires-clause-place c =
    let config = c.config_of_frame-config in
    let len : c.packet_len.result ≡ packet_len config.result.now (c.args.t % 3 == 0) = c.packet_len.ensures.len ∙ size_is c.args.plan.now c.args.t config.result.now config.ensures.config in
    let streams : sum_by (λ (s : Stream). 8 + stream_size s) c.as_slice.result.now ≡ sum_by (λ (s : Stream). 8 + stream_size s) config.result.now.streams = ap (sum_by (λ (s : Stream). 8 + stream_size s)) c.as_slice.ensures in
    record {
      head = c.write_block_where.ensures.from;
      order = c.write_block_where.ensures.to;
      room = omega (arith, len, streams, c.packet_len.ensures.in_range, c.packet_len.ensures.within, ap length c.new-writer.ensures.behind, c.told-into, c.write_head.ensures.remaining, c.write_block_where.ensures.remaining);
    }
