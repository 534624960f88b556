use Rattle.drm_bits.proofs.WroteLemmas.{then}
use Rattle.drm_sdc.proofs.write_settings.write_time.Goals as goal

pub returns-clause-wrote : goal.returns-clause-wrote
returns-clause-wrote c = then c.put_u32.ensures.wrote (then c.put_u8.ensures.wrote (then c.put_u8-2.ensures.wrote (c.put_optional.ensures.wrote)))
