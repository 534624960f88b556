use Rattle.std.proofs.Common.{ℕ, ◌≤◌, ◌+◌, ◌*◌, ◌%◌, drop, arith}
use Rattle.std.proofs.lemmas.List.{length-take-le}
use Rattle.dcp_pft.proofs.Turned.{columns_of}
use Rattle.dcp_pft.proofs.turn.take_columns.Goals as goal

pub returns-clause-columns : goal.returns-clause-columns
returns-clause-columns c =
    let height : ℕ = c.args.piece + c.args.piece % 2 in
    let room : 16 * height ≤ 23744 = omega arith in
    let long = length-take-le (16 * height) c.take_rows.new.into (omega (arith, room, c.take_rows.ensures.same_length, c.requires.columns)) in
    columns_of c.args.count c.args.first c.args.piece height c.args.coded.now c.take_rows.new.into c.turn.new.rows (drop (16 * height) c.take_rows.new.into)
    (omega arith) (omega (arith, long, c.turn.ensures.same_length)) c.take_rows.ensures.rows c.turn.ensures.turned
