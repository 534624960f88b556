use Rattle.std.proofs.Common.{◌≤◌, length, sym, subst, arith}
use Rattle.std.proofs.lemmas.List.{take-append-le}
use Rattle.drm_server.specs.Placing.{IsPayloadWith}
use Rattle.drm_server.proofs.packet.write_first.Goals as goal

pub returns-clause-written : goal.returns-clause-written
returns-clause-written c =
    let w = c.write_payload in
    let all : w.result ≤ length w.new.into = omega (arith, w.ensures.in_range, w.ensures.length) in
    subst (IsPayloadWith c.args.live.now c.args.piece.now c.args.plan.now c.args.t) (sym (take-append-le w.result w.new.into _ all)) w.ensures.written
