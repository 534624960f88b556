use Rattle.plan_packing.proofs.PackedLemmas.{finds_the_packing, finds_none, tests_for_a_packing}
use Rattle.plan_packing.proofs.laws.one_packing.Goals as goal

pub returns : goal.returns
returns c = record { found = finds_the_packing; none = finds_none; tested = tests_for_a_packing }
