use Rattle.std.proofs.Common.{arith}
use Rattle.drm_sdc.proofs.Fitting.{octets_fit}
use Rattle.drm_sdc.proofs.fits.length_fits.Goals as goal

pub returns-clause-octets : goal.returns-clause-octets
returns-clause-octets c = octets_fit c.args.bytes.now (λ i. omega (arith, c.type_inv.bytes i))
