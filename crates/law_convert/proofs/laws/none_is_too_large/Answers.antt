use Rattle.law_convert.proofs.Sizes.{none_is_too_large}
use Rattle.law_convert.proofs.laws.none_is_too_large.Goals as goal

pub returns : goal.returns
returns c =
    none_is_too_large c.collecting.ensures c.giving_ends.ensures c.steps_count.ensures
