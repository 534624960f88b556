use Rattle.dcp_tag.proofs.TagLemmas.{cut_is_no_payload}
use Rattle.dcp_tag.proofs.laws.cut_is_none.Goals as goal

pub returns : goal.returns
returns c = λ bytes items cut h. cut_is_no_payload bytes items cut h
