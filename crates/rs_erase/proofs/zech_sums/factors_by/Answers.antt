use Rattle.rs_erase.specs.declared.zech_logarithms.TheConstants.{ZECH_LOGARITHMS}
use Rattle.rs_erase.proofs.ZechSums.{factors_are}
use Rattle.rs_erase.proofs.zech_sums.factors_by.Goals as goal

pub returns : goal.returns
returns c =
    factors_are ZECH_LOGARITHMS c.zech_table.ensures c.args.places.now c.clear_erased.new.factors c.factors_of_others-factors.result c.args.sums.now
    c.requires.places c.factors_of_others-factors.ensures c.requires.sums c.clear_erased.ensures.cleared c.clear_erased.ensures.others
