use Rattle.std.proofs.Common.{ap, arith, get_or, refl, replicate, List, ℕ, ◌<◌, ◌∙◌}
use Rattle.rs_erase.proofs.SpacingRows.{pushed}
use Rattle.rs_erase.proofs.spacing.row_of.Goals as goal

pub returns : goal.returns
returns c = λ i li lt.
    let q = get_or c.args.quotients.now c.args.row 0 in
    let some : 0 < c.args.distance = omega (arith, c.if-distance-eq0.false) in
    let far : c.args.distance < c.args.row = omega (arith, c.if-row-distance.false) in
    ap (λ (xs : List ℕ). get_or xs i 0) c.one_back.ensures
    ∙ pushed c.args.distance c.args.row i q c.args.quotients.now c.args.table.now (replicate 16 q) c.lanes_from.result refl some far li lt refl c.lanes_from.ensures c.requires.earlier
