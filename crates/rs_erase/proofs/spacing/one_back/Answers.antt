use Rattle.std.proofs.Common.{◌++◌, ◌+◌, ◌≡◌, length, length-append, arith, rules}
use Rattle.std.proofs.lemmas.Simd.{pick_l-range_with_len}
use Rattle.rs_erase.proofs.spacing.one_back.Goals as goal

pub returns : goal.returns
returns c =
    let lf : length c.args.first ≡ 16 = search rules in
    let lo : length c.args.others ≡ 16 = search rules in
    pick_l-range_with_len _ (c.args.first ++ c.args.others) 15 16 (omega (arith, lf, lo, length-append c.args.first c.args.others))
