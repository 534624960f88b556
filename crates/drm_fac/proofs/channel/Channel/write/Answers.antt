use Rattle.drm_bits.proofs.WroteLemmas.{then, last}
use Rattle.drm_fac.proofs.channel.Channel.write.Goals as goal

-- each field in turn
pub returns-clause-wrote : goal.returns-clause-wrote
returns-clause-wrote c = then c.put_flag.ensures.wrote (then c.put_u8.ensures.wrote (then c.put_u8-2.ensures.wrote (then c.put_flag-2.ensures.wrote (then c.put_u8-3.ensures.wrote (then c.put_flag-3.ensures.wrote (then c.put_u8-4.ensures.wrote (then c.put_u8-5.ensures.wrote (last c.put_u8-6.ensures.wrote))))))))
