use Rattle.std.proofs.Common.{[]}
use Rattle.drm_server.specs.ServerState.{only_at}
use Rattle.drm_server.proofs.LiveLemmas.{no_piece, plain_loaded}
use Rattle.drm_server.proofs.loaded.EncodedFrame.load.Goals as goal

pub load_live-requires-clause-piece : goal.load_live-requires-clause-piece
load_live-requires-clause-piece c = no_piece c.none.result c.args.self.now.base c.args.t c.none.ensures

pub returns : goal.returns
returns c = plain_loaded c.load_live.new.self c.none.result (only_at c.args.t []) c.args.self.now.base c.args.t c.load_live.ensures c.none.ensures
