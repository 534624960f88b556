use Rattle.drm_bits.proofs.WroteLemmas.{then}
use Rattle.drm_sdc.proofs.Written.{wrote_octets}
use Rattle.drm_sdc.proofs.write_body.write_raw.Goals as goal

pub returns-clause-wrote : goal.returns-clause-wrote
returns-clause-wrote c = λ kind. then c.put_u8.ensures.wrote (wrote_octets c.args.bytes.now c.put_octets.ensures.wrote)
