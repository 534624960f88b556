use Rattle.dcp_tag.proofs.PlaceLemmas.{given_payload}
use Rattle.dcp_tag.proofs.laws.given_items_are_the_payloads.Goals as goal

pub returns : goal.returns
returns c = λ old new given others h. given_payload old new given others h
