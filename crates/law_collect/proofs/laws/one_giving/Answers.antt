use Rattle.dcp_collect.proofs.Decoded.{one_decoding}
use Rattle.law_collect.proofs.Unique.{one_giving}
use Rattle.law_collect.proofs.laws.one_giving.Goals as goal

pub returns : goal.returns
returns c = one_giving one_decoding
