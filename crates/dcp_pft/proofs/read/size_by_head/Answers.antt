use Rattle.std.proofs.lemmas.Result.{err_from_is_err_and}
use Rattle.dcp_pft.specs.Reading.{size_rows, check_rows, head_rows}
use Rattle.dcp_pft.proofs.Table.{first_front, first_behind, handed}
use Rattle.dcp_pft.proofs.read.size_by_head.Goals as goal

pub returns-in_err-size-clause-fault : goal.returns-in_err-size-clause-fault
returns-in_err-size-clause-fault c =
    let p = err_from_is_err_and c.from_residual.result c.from_residual.ensures.1 in
    let fault = c.in_err-size.field-0.0 in
    handed c.from_residual.result p.0 fault head_rows c.args.front.now p.1 p.2 (first_front size_rows check_rows fault c.args.front.now c.in_err-size.ensures.fault)

pub returns-in_err-compare-clause-fault : goal.returns-in_err-compare-clause-fault
returns-in_err-compare-clause-fault c =
    let p = err_from_is_err_and c.from_residual-in_err-compare.result c.from_residual-in_err-compare.ensures.1 in
    let fault = c.in_err-compare.field-0.0 in
    handed c.from_residual-in_err-compare.result p.0 fault head_rows c.args.front.now p.1 p.2
    (first_behind size_rows check_rows fault c.args.front.now c.in_ok-size.ensures.right c.in_err-compare.ensures.fault)
