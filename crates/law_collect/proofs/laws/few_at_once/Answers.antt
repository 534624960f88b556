use Rattle.law_collect.proofs.AtOnce.{few_at_once}
use Rattle.law_collect.proofs.laws.few_at_once.Goals as goal

pub returns : goal.returns
returns c = few_at_once
