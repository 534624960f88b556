use Rattle.std.proofs.Common.{◌∙◌, sym}
use Rattle.live_server.proofs.NothingLemmas.{none_live, piece_none}
use Rattle.live_server.proofs.feeding.asks_for_nothing.Goals as goal

pub returns : goal.returns
returns c = λ none. piece_none c.args.live.now (none_live c.args.live.now (sym c.count.ensures.same_length ∙ c.count.ensures.known) none)
