use Rattle.std.proofs.Common.{inl, refl}
use Rattle.dcp_pft.proofs.Checked.{IsCut, right, wrong}
use Rattle.dcp_pft.proofs.read.compare.Goals as goal
use Rattle.dcp_pft.proofs.read.compare.Goals.{After-compare_crc16}

cut : (c : After-compare_crc16) → IsCut c.args.datagram.now c.args.size c.split_at.result.0.now c.split_at.result.1.now
cut c = record { whole = c.requires.size; before = c.split_at.ensures.front; behind = c.split_at.ensures.back }

pub returns-in-Ok-clause-right : goal.returns-in-Ok-clause-right
returns-in-Ok-clause-right c =
    let at = (goal.at.returns-in-Ok-clause-right c).After-compare_crc16 in
    (λ no. no (right c.args.datagram.now c.args.size c.split_at.result.0.now c.split_at.result.1.now (cut at) c.in-Ok.ensures.right), tt)

pub returns-in-Err-clause-fault : goal.returns-in-Err-clause-fault
returns-in-Err-clause-fault c =
    let at = (goal.at.returns-in-Err-clause-fault c).After-compare_crc16 in
    inl (λ is. wrong c.args.datagram.now c.args.size c.split_at.result.0.now c.split_at.result.1.now c.in-Err.field-0 (cut at) c.in-Err.ensures.wrong is, refl)

pub returns-in-Ok-clause-check : goal.returns-in-Ok-clause-check
returns-in-Ok-clause-check c =
    let at = (goal.at.returns-in-Ok-clause-check c).After-compare_crc16 in
    right c.args.datagram.now c.args.size c.split_at.result.0.now c.split_at.result.1.now (cut at) c.in-Ok.ensures.right
