use Rattle.dcp_tag.proofs.WrittenLemmas.{written_once}
use Rattle.dcp_tag.proofs.laws.one_written_spelling.Goals as goal

pub returns : goal.returns
returns c = λ item bytes others small small_too h k. written_once item bytes others small small_too h k
