use Rattle.std.proofs.Common.{arith}
use Rattle.dcp_tag.proofs.TagLemmas.{split_front}
use Rattle.dcp_tag.proofs.head.split_head.Goals as goal

pub returns-clause-head : goal.returns-clause-head
returns-clause-head c =
    split_front c.args.bytes.now c.in_ok-name.name.now c.in_ok-name.rest.now c.in_ok-bits.bits.now c.in_ok-bits.rest.now c.from_be_bytes.result
    c.in_ok-name.ensures.cases.0 c.in_ok-name.ensures.cases.1 c.in_ok-bits.ensures.cases.0 c.in_ok-bits.ensures.cases.1
    (omega (arith, c.in_ok-name.ensures.cases.2, c.in_ok-bits.ensures.cases.2)) (λ i. omega (arith, c.type_inv.bytes i)) c.from_be_bytes.type_inv c.from_be_bytes.ensures
