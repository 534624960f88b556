use Rattle.std.proofs.Common.{ℕ, List, ◌≡◌, ◌∙◌, sym, ap, take, length, arith}
use Rattle.std.proofs.lemmas.List.{length-take-le}
use Rattle.drm_schedule.specs.declared.plan.Plan.{Plan}
use Rattle.dcp_pft.specs.Carrying.{cut_of}
use Rattle.dcp_pft.specs.Limits.{most_packet}
use Rattle.dcp_pft.proofs.Carried.{limit_is}
use Rattle.live_streams.specs.Live.{LivePieces, live_schedule}
use Rattle.live_streams.proofs.FrameLemmas.{same_carry, same_sequence_number}
use Rattle.drm_timeline.specs.Numbers.{sequence_number}
use Rattle.dcp_sender.specs.Sending.{AreFirst}
use Rattle.dcp_sender.proofs.OverLinks.{all_of}
use Rattle.drm_server.specs.ServerState.{only_at}
use Rattle.drm_server.proofs.FrameLemmas.{of_frame}
use Rattle.drm_server.proofs.loaded.encode.Goals as goal

pub returns-clause-datagrams : goal.returns-clause-datagrams
returns-clause-datagrams c =
    let w = c.write_packet-len in
    let base : Plan = c.args.plan.now in
    let given : LivePieces = only_at c.args.t c.args.piece.now in
    let plan : Plan = live_schedule c.args.live.now given base in
    let packet : List ℕ = take w.result w.new.into in
    let long : length packet ≡ w.result = length-take-le w.result w.new.into (omega (arith, w.ensures.within, w.ensures.room)) in
    let carry : plan.carry ≡ base.carry = same_carry c.args.live.now given base in
    let cut : cut_of plan.carry (length packet) ≡ c.cut_for-cut.result = rw (carry, long, ← c.carry.ensures) (sym c.cut_for-cut.ensures.cut) in
    let number : c.sequence_number.result ≡ sequence_number plan c.args.t = c.sequence_number.ensures ∙ sym (same_sequence_number c.args.live.now given base c.args.t) in
    let all = c.fill.ensures.datagrams in
    let each : AreFirst c.cut_for-cut.result (sequence_number plan c.args.t) packet c.fill.new.self = rw (← number) all.0 in
    record {
      are = of_frame plan c.args.t packet c.fill.new.self w.ensures.packet (all_of plan.carry (sequence_number plan c.args.t) packet c.cut_for-cut.result c.fill.new.self cut (each, all.1));
      some = c.fill.ensures.at_least_one;
      in_range = c.fill.ensures.in_range (most_packet plan.carry) (omega (arith, (limit_is plan.carry).0)) (omega (arith, long, w.ensures.in_range, ap most_packet carry));
    }
