use Rattle.std.proofs.Common.{◌≡◌, ◌-◌, length, take, drop, sym, subst, ◌∙◌, arith}
use Rattle.std.proofs.lemmas.Result.{err_from_is_err_and}
use Rattle.dcp_pft.specs.Faults.{table}
use Rattle.dcp_pft.specs.Head.{PftFragment}
use Rattle.dcp_pft.specs.Reading.{IsPft}
use Rattle.dcp_pft.proofs.Table.{handed, none_first}
use Rattle.dcp_pft.proofs.Spelled.{fragment_at}
use Rattle.dcp_pft.proofs.Answered.{fault_only, fault_is, found_at, given_is, payload_is, is_fragment_at}
use Rattle.dcp_pft.proofs.read.read_fragment.Goals as goal

pub returns-in_err-head-clause-only : goal.returns-in_err-head-clause-only
returns-in_err-head-clause-only c = fault_only c.from_residual.result c.in_err-head.field-0.0 c.args.datagram.now c.in_err-head.ensures.fault

pub returns-in_err-head-clause-faults : goal.returns-in_err-head-clause-faults
returns-in_err-head-clause-faults c =
    let p = err_from_is_err_and c.from_residual.result c.from_residual.ensures.1 in
    fault_is c.from_residual.result p.0 c.in_err-head.field-0.0 c.args.datagram.now p.1 p.2 c.in_err-head.ensures.fault

-- the fragment that is given stands at its places
given : (c : goal.After-result-1)
    → record { seq = c.in_ok-head.head.seq; index = c.in_ok-head.head.index; count = c.in_ok-head.head.count; rs = c.in_ok-head.head.rs; addr = c.in_ok-head.head.addr; payload = take (length c.args.datagram.now - c.size_of_head.result) (drop c.size_of_head.result c.args.datagram.now) }
    ≡ fragment_at c.args.datagram.now
given c =
    let head = c.in_ok-head.ensures.head in
    given_is c.args.datagram.now c.in_ok-head.head.seq c.in_ok-head.head.index c.in_ok-head.head.count c.in_ok-head.head.rs c.in_ok-head.head.addr _ head.seq head.index head.count head.rs head.addr
    (payload_is c.args.datagram.now c.size_of_head.result c.size_of_head.ensures)

found : (c : goal.After-result-1) → IsPft (fragment_at c.args.datagram.now) c.args.datagram.now
found c = found_at c.args.datagram.now (λ i. omega (arith, c.type_inv.datagram i)) c.in_ok-head.ensures.right c.in_ok-head.ensures.check

pub returns-clause-found : goal.returns-clause-found
returns-clause-found c = subst (λ (f : PftFragment). IsPft f c.args.datagram.now) (sym (given c)) (found c)

pub returns-clause-only : goal.returns-clause-only
returns-clause-only c = λ f is. given c ∙ is_fragment_at f c.args.datagram.now is

pub returns-in_err-head-clause-found : goal.returns-in_err-head-clause-found
returns-in_err-head-clause-found c = let p = err_from_is_err_and c.from_residual.result c.from_residual.ensures.1 in rw p.1 tt

pub returns-in_err-head-clause-fault : goal.returns-in_err-head-clause-fault
returns-in_err-head-clause-fault c =
    let p = err_from_is_err_and c.from_residual.result c.from_residual.ensures.1 in
    handed c.from_residual.result p.0 c.in_err-head.field-0.0 table c.args.datagram.now p.1 p.2 c.in_err-head.ensures.fault

pub returns-in_err-head-clause-lent : goal.returns-in_err-head-clause-lent
returns-in_err-head-clause-lent c = let p = err_from_is_err_and c.from_residual.result c.from_residual.ensures.1 in rw p.1 tt

pub returns-clause-faults : goal.returns-clause-faults
returns-clause-faults c = λ fault is. absurd (none_first table fault c.args.datagram.now c.in_ok-head.ensures.right is)

pub returns-clause-lent : goal.returns-clause-lent
returns-clause-lent c = payload_is c.args.datagram.now c.size_of_head.result c.size_of_head.ensures
