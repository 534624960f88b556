use Rattle.dcp_collect.proofs.Decoded.{one_decoding}
use Rattle.law_collect.proofs.SentCollected.{collecting}
use Rattle.law_collect.proofs.laws.collecting.Goals as goal

pub returns : goal.returns
returns c = collecting one_decoding
