use Rattle.live_streams.specs.Input.{pieces_of}
use Rattle.live_server.proofs.NothingLemmas.{own_schedule}
use Rattle.live_server.proofs.laws.none_is_the_schedule.Goals as goal

pub returns : goal.returns
returns c = λ live none plan first bytes. own_schedule live none (pieces_of live plan first bytes) plan
