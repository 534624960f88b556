use Rattle.std.proofs.Common.{ap, ◌∙◌, arith}
use Rattle.std.proofs.lemmas.Result.{err_from_is_err_and}
use Rattle.drm_data.specs.Reading.{flag_at}
use Rattle.drm_data.proofs.Spellings.{is_packet_at}
use Rattle.drm_data.proofs.Answered.{no_fault, fault_is, front_at, useful_fault, found, given_at}
use Rattle.drm_data.proofs.packet.read_packet.Goals as goal

pub returns-in_err-front-clause-only : goal.returns-in_err-front-clause-only
returns-in_err-front-clause-only c = λ p packet. absurd (no_fault c.args.length p c.in_err-front.field-0.0 c.args.bytes.now packet c.in_err-front.ensures.fault)

pub returns-in_err-front-clause-faults : goal.returns-in_err-front-clause-faults
returns-in_err-front-clause-faults c =
    let p = err_from_is_err_and c.from_residual.result c.from_residual.ensures.1 in
    fault_is c.args.length c.from_residual.result p.0 c.in_err-front.field-0.0 c.args.bytes.now p.1 p.2 c.in_err-front.ensures.fault

pub returns-in_err-useful-clause-faults : goal.returns-in_err-useful-clause-faults
returns-in_err-useful-clause-faults c =
    let p = err_from_is_err_and c.from_residual-in_err-useful.result c.from_residual-in_err-useful.ensures.1 in
    let whole = c.in_ok-front.ensures.whole in
    let at = front_at c.args.length c.args.bytes.now c.in_ok-front.front.now c.requires whole c.in_ok-front.ensures.front in
    let fault = useful_fault c.args.length c.args.bytes.now c.in_ok-front.front.now c.head_of-head.result.padded c.in_err-useful.field-0.0 whole at
    (c.head_of-head.ensures.padded ∙ ap (flag_at 8) at.head) c.in_err-useful.ensures in
    fault_is c.args.length c.from_residual-in_err-useful.result p.0 c.in_err-useful.field-0.0 c.args.bytes.now p.1 p.2 fault

pub returns-clause-found : goal.returns-clause-found
returns-clause-found c =
    found c.args.length c.args.bytes.now c.in_ok-front.front.now c.head_of-head.result c.in_ok-useful.useful c.requires (λ i. omega (arith, c.type_inv.bytes i))
    c.in_ok-front.ensures.whole c.in_ok-front.ensures.front c.head_of-head.ensures c.in_ok-useful.ensures

pub returns-clause-only : goal.returns-clause-only
returns-clause-only c = λ p packet.
    given_at c.args.length c.args.bytes.now c.in_ok-front.front.now c.head_of-head.result c.in_ok-useful.useful c.requires c.in_ok-front.ensures.whole c.in_ok-front.ensures.front c.head_of-head.ensures
    c.in_ok-useful.ensures
    ∙ is_packet_at c.args.length p c.args.bytes.now packet

pub returns-clause-faults : goal.returns-clause-faults
returns-clause-faults c = λ f h.
    absurd
    (no_fault c.args.length _ f c.args.bytes.now
    (found c.args.length c.args.bytes.now c.in_ok-front.front.now c.head_of-head.result c.in_ok-useful.useful c.requires (λ i. omega (arith, c.type_inv.bytes i))
    c.in_ok-front.ensures.whole c.in_ok-front.ensures.front c.head_of-head.ensures c.in_ok-useful.ensures)
    h)
