use Rattle.drm_bits.proofs.WroteLemmas.{then}
use Rattle.drm_sdc.proofs.Written.{wrote_octets}
use Rattle.drm_sdc.proofs.write_service.write_audio.Goals as goal

pub returns-clause-wrote : goal.returns-clause-wrote
returns-clause-wrote c = then c.put_u8.ensures.wrote (then c.put_u8-2.ensures.wrote (then c.put_u8-3.ensures.wrote (then c.put_flag.ensures.wrote (then c.put_u8-4.ensures.wrote (then c.put_u8-5.ensures.wrote (then c.put_flag-2.ensures.wrote (then c.put_flag-3.ensures.wrote (then c.put_u8-6.ensures.wrote (then c.put_flag-4.ensures.wrote (wrote_octets c.args.config.now c.put_octets.ensures.wrote))))))))))
