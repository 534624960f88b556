use Rattle.std.proofs.Common.{◌≡◌, ◌∙◌, ap, sym, take, length, arith}
use Rattle.std.proofs.lemmas.List.{length-take-le}
use Rattle.dcp_pft.specs.Limits.{most_packet}
use Rattle.live_streams.specs.Live.{LivePieces}
use Rattle.live_streams.proofs.FrameLemmas.{same_carry, same_packet_size}
use Rattle.drm_server.specs.ServerState.{only_at}
use Rattle.drm_server.proofs.loaded.EncodedFrame.packet.Goals as goal

size : (c : goal.After-deref) → length (take c.self.inside.len c.deref.result.now) ≡ c.self.inside.len
size c =
    let s = c.self.inside in
    let v = c.self.invariant in
    ap (λ l. length (take s.len l)) c.deref.ensures.value ∙ length-take-le s.len s.buffer.items (omega (arith, v.1, v.2))

pub returns-clause-len : goal.returns-clause-len
returns-clause-len c =
    let s = c.self.inside in
    let given : LivePieces = only_at s.frame (take s.piece_len s.piece.items) in
    rw (← c.self.view_is) (size c ∙ c.self.invariant.4 ∙ sym (same_packet_size s.live given s.plan.now s.frame))

pub returns-clause-in_range : goal.returns-clause-in_range
returns-clause-in_range c =
    let s = c.self.inside in
    let given : LivePieces = only_at s.frame (take s.piece_len s.piece.items) in
    rw (← c.self.view_is) (omega (arith, size c, c.self.invariant.5, ap most_packet (same_carry s.live given s.plan.now)))
