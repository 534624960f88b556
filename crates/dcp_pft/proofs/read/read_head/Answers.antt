use Rattle.std.proofs.Common.{◌++◌}
use Rattle.std.proofs.lemmas.Result.{err_from_is_err_and}
use Rattle.dcp_pft.specs.Faults.{IsFault, table}
use Rattle.dcp_pft.specs.Reading.{size_rows, check_rows, number_rows}
use Rattle.dcp_pft.proofs.Table.{first_front, first_behind, handed}
use Rattle.dcp_pft.proofs.read.read_head.Goals as goal

pub returns-in_err-judge-clause-fault : goal.returns-in_err-judge-clause-fault
returns-in_err-judge-clause-fault c =
    let p = err_from_is_err_and c.from_residual-in_err-judge.result c.from_residual-in_err-judge.ensures.1 in
    let fault = c.in_err-judge.field-0.0 in
    let first : IsFault fault c.args.datagram.now =
    first_behind size_rows (check_rows ++ number_rows) fault c.args.datagram.now c.in_ok-size.ensures.right
    (first_behind check_rows number_rows fault c.args.datagram.now c.in_ok-compare.ensures.right c.in_err-judge.ensures.fault) in
    handed c.from_residual-in_err-judge.result p.0 fault table c.args.datagram.now p.1 p.2 first

pub returns-in_err-size-clause-fault : goal.returns-in_err-size-clause-fault
returns-in_err-size-clause-fault c =
    let p = err_from_is_err_and c.from_residual.result c.from_residual.ensures.1 in
    let fault = c.in_err-size.field-0.0 in
    handed c.from_residual.result p.0 fault table c.args.datagram.now p.1 p.2
    (first_front size_rows (check_rows ++ number_rows) fault c.args.datagram.now c.in_err-size.ensures.fault)

pub returns-in_err-size-clause-right : goal.returns-in_err-size-clause-right
returns-in_err-size-clause-right c = let p = err_from_is_err_and c.from_residual.result c.from_residual.ensures.1 in rw p.1 tt

pub returns-in_err-compare-clause-fault : goal.returns-in_err-compare-clause-fault
returns-in_err-compare-clause-fault c =
    let p = err_from_is_err_and c.from_residual-in_err-compare.result c.from_residual-in_err-compare.ensures.1 in
    let fault = c.in_err-compare.field-0.0 in
    let first : IsFault fault c.args.datagram.now =
    first_behind size_rows (check_rows ++ number_rows) fault c.args.datagram.now c.in_ok-size.ensures.right
    (first_front check_rows number_rows fault c.args.datagram.now c.in_err-compare.ensures.fault) in
    handed c.from_residual-in_err-compare.result p.0 fault table c.args.datagram.now p.1 p.2 first

pub returns-in_err-compare-clause-right : goal.returns-in_err-compare-clause-right
returns-in_err-compare-clause-right c = let p = err_from_is_err_and c.from_residual-in_err-compare.result c.from_residual-in_err-compare.ensures.1 in rw p.1 tt

pub returns-in_err-judge-clause-right : goal.returns-in_err-judge-clause-right
returns-in_err-judge-clause-right c = let p = err_from_is_err_and c.from_residual-in_err-judge.result c.from_residual-in_err-judge.ensures.1 in rw p.1 tt

pub returns-clause-right : goal.returns-clause-right
returns-clause-right c =
    let size = c.in_ok-size.ensures.right in
    let check = c.in_ok-compare.ensures.right in
    (size.0, (size.1.0, (check.0, c.in_ok-judge.ensures.right)))
