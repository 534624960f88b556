use Rattle.std.proofs.Common.{◌≡◌, ◌∙◌, [], ap, take, subst}
use Rattle.drm_schedule.specs.declared.live.Live.{Live}
use Rattle.drm_schedule.specs.declared.plan.Plan.{Plan}
use Rattle.drm_schedule.specs.Live.{none}
use Rattle.live_streams.specs.Live.{live_schedule}
use Rattle.live_streams.proofs.PlainLemmas.{none_is_live, plain_schedule}
use Rattle.drm_server.specs.Frames.{IsPacketAt}
use Rattle.drm_server.specs.ServerState.{only_at}
use Rattle.drm_server.proofs.LiveLemmas.{no_piece}
use Rattle.drm_server.proofs.cut_frame.write_own.Goals as goal

pub write_packet-requires-clause-piece : goal.write_packet-requires-clause-piece
write_packet-requires-clause-piece c = no_piece c.none.result c.args.plan.now c.args.t c.none.ensures

pub returns-clause-packet : goal.returns-clause-packet
returns-clause-packet c =
    let plan : Plan = c.args.plan.now in
    let own : live_schedule c.none.result (only_at c.args.t []) plan ≡ plan =
    ap (λ (live : Live). live_schedule live (only_at c.args.t []) plan) c.none.ensures ∙ plain_schedule none (only_at c.args.t []) none_is_live plan in
    subst (λ (p : Plan). IsPacketAt p c.args.t (take c.write_packet.result c.write_packet.new.into)) own c.write_packet.ensures.packet
