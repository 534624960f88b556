use Rattle.drm_server.proofs.MultiplexLemmas.{has_multiplex_frame}
use Rattle.drm_server.proofs.laws.streams_make_the_multiplex_frame.Goals as goal

pub returns : goal.returns
returns c = has_multiplex_frame
