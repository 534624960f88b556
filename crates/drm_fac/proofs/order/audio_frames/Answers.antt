use Rattle.drm_fac.proofs.OrderLemmas.{twice}
use Rattle.drm_fac.proofs.order.audio_frames.Goals as goal

pub returns-else-audio-eq1 : goal.returns-else-audio-eq1
returns-else-audio-eq1 c = twice c.args.audio c.requires c.if-audio-eq1.false
