use Rattle.drm_bits.proofs.WroteLemmas.{then, last}
use Rattle.drm_sdc.proofs.write_service.write_language.Goals as goal

pub returns-clause-wrote : goal.returns-clause-wrote
returns-clause-wrote c = then c.put_u8.ensures.wrote (then c.put_u8-2.ensures.wrote (then c.put_u32.ensures.wrote (last c.put_u16.ensures.wrote)))
