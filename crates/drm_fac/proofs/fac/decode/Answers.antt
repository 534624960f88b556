use Rattle.std.proofs.Common.{rules, ap, Ok, Err}
use Rattle.drm_fac.proofs.FacLemmas.{one_fac, fac_fits, one_fault, fac_or_fault}
use Rattle.drm_fac.proofs.fac.decode.Goals as goal

pub returns-then-stands-computed-clause-only : goal.returns-then-stands-computed-clause-only
returns-then-stands-computed-clause-only c = λ fac is. absurd (c.if-stands-computed.true (c.crc8-computed.ensures.only _ (is.all_bytes 8) is.check))

pub returns-then-stands-computed-clause-named : goal.returns-then-stands-computed-clause-named
returns-then-stands-computed-clause-named c = λ fault is. ap Err (one_fault _ fault c.args.bytes.now (search rules) is)

pub returns-clause-only : goal.returns-clause-only
returns-clause-only c = λ fac is. ap Ok (one_fac c.parameters.result fac c.args.bytes.now (search rules) is)

pub returns-clause-fits : goal.returns-clause-fits
returns-clause-fits c = fac_fits c.parameters.result c.args.bytes.now (search rules)

pub returns-clause-named : goal.returns-clause-named
returns-clause-named c = λ fault is. absurd (fac_or_fault c.parameters.result fault c.args.bytes.now (search rules) is)
