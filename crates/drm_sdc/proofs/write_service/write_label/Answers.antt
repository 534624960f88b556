use Rattle.drm_bits.proofs.WroteLemmas.{then}
use Rattle.drm_sdc.proofs.Written.{wrote_octets}
use Rattle.drm_sdc.proofs.write_service.write_label.Goals as goal

pub returns-clause-wrote : goal.returns-clause-wrote
returns-clause-wrote c = then c.put_u8.ensures.wrote (then c.put_u8-2.ensures.wrote (wrote_octets c.args.text.now c.put_octets.ensures.wrote))
