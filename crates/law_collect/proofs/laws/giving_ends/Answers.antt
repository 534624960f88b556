use Rattle.dcp_collect.proofs.Decoded.{decoded_or_none}
use Rattle.law_collect.proofs.Ending.{giving_ends}
use Rattle.law_collect.proofs.laws.giving_ends.Goals as goal

pub returns : goal.returns
returns c = giving_ends decoded_or_none
