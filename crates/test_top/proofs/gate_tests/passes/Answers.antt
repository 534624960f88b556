use Rattle.std.proofs.Common.{ap, arith, length}
use Rattle.test_top.proofs.gate_tests.passes.Goals as goal

-- two links were added, neither of which has failed
pub gate_one-ended-requires-clause-links : goal.gate_one-ended-requires-clause-links
gate_one-ended-requires-clause-links c =
    let none = ap length c.new-to.ensures.items in
    let one = c.in_ok-add_link.ensures.one_longer in
    let two = c.in_ok-add_link-2.ensures.one_longer in
    rw c.deref_mut.ensures.value (omega (arith, none, one, two), omega (arith, none, one, two))

pub gate_one-ended-requires-clause-up : goal.gate_one-ended-requires-clause-up
gate_one-ended-requires-clause-up c =
    rw c.deref_mut.ensures.value
    (c.in_ok-add_link-2.ensures.up (c.in_ok-add_link.ensures.up (rw c.new-to.ensures.items (λ k d within. absurd (omega (arith, within))))))
