use Rattle.std.proofs.Common.{◌-◌, ◌≤◌, length, arith}
use borrow.Rule.Slice.PartMut.{post_of}
use Rattle.drm_server.proofs.ByteLemmas.{bytes_take}
use Rattle.drm_server.proofs.PacketLemmas.{packet_is, behind_head}
use Rattle.drm_server.proofs.packet.write_packet.Goals as goal

pub returns-clause-packet : goal.returns-clause-packet
returns-clause-packet c =
    let w = c.write_first-len in
    let fits : w.result ≤ length w.new.scratch = omega (arith, w.ensures.in_range, w.ensures.room, c.requires.room) in
    packet_is c.args.live.now c.args.piece.now c.args.plan.now c.args.t _ _ _ _ c.always_valid.ensures.schedule c.requires.piece c.requires.frame w.ensures.written
    (behind_head c.args.into.now w.new.scratch (post_of 10 (length c.args.into.now - 10) c.args.into.now) w.result (omega (arith, c.requires.room)) fits)
    c.sequence_number.ensures c.write_af.ensures.packet (bytes_take c.write_af.result c.write_af.new.into (λ i. (c.type_inv.into i).fits))
