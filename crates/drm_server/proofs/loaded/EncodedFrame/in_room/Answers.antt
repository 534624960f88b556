use Rattle.std.proofs.Common.{[], refl}
use Rattle.drm_server.specs.ServerState.{only_at}
use Rattle.drm_server.proofs.LiveLemmas.{no_piece, plain_loaded}
use Rattle.drm_server.proofs.loaded.EncodedFrame.in_room.Goals as goal

pub encode-len-requires-clause-piece : goal.encode-len-requires-clause-piece
encode-len-requires-clause-piece c = no_piece c.none-live.result c.args.plan.now 0 c.none-live.ensures

pub returns : goal.returns
returns c = plain_loaded _ c.none-live.result (only_at 0 []) c.args.plan.now 0 refl c.none-live.ensures
