use Rattle.std.proofs.Common.{Ok, ap, arith, rules}
use Rattle.drm_mux.proofs.SdciLemmas.{length-value, one_description}
use Rattle.drm_mux.proofs.sdci.read_sdci.Goals as goal

pub returns-in_default-clause-only : goal.returns-in_default-clause-only
returns-in_default-clause-only c = λ d is whole. absurd (c.in_default.ensures.none (d.count, is.description.count, omega (arith, whole, length-value d c.args.value.now is)))

pub returns-clause-only : goal.returns-clause-only
returns-clause-only c = λ d is whole. ap Ok (one_description c.read.result d c.args.value.now (search rules) is)
