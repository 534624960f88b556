use Rattle.dcp_collect.proofs.Decoded.{one_decoding}
use Rattle.law_collect.proofs.OneReading.{one_reading}
use Rattle.law_collect.proofs.Unique.{one_run}
use Rattle.law_collect.proofs.laws.one_run.Goals as goal

pub returns : goal.returns
returns c = one_run one_reading one_decoding
