use Rattle.dcp_tag.proofs.TagLemmas.{payload_once}
use Rattle.dcp_tag.proofs.laws.one_list_of_items.Goals as goal

pub returns : goal.returns
returns c = λ bytes items others h k. payload_once items others bytes h k
