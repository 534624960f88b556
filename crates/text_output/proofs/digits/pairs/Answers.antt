use Rattle.std.proofs.Common.{refl}
use Rattle.text_output.proofs.Pairs.{turns_are_pairs}
use Rattle.text_output.proofs.digits.pairs.Goals as goal

pub returns-clause-turns : goal.returns-clause-turns
returns-clause-turns c = turns_are_pairs c.args.first c.args.second c.fits-first.0 c.fits-second.0

pub returns-clause-length : goal.returns-clause-length
returns-clause-length c = (refl, refl)
