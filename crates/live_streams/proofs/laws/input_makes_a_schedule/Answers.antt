use Rattle.live_streams.proofs.InputLemmas.{pieces_are_whole}
use Rattle.live_streams.proofs.ScheduleLemmas.{live_is_one}
use Rattle.live_streams.specs.Input.{pieces_of}
use Rattle.live_streams.proofs.laws.input_makes_a_schedule.Goals as goal

pub returns : goal.returns
returns c live plan first bytes is = live_is_one live (pieces_of live plan first bytes) plan is (pieces_are_whole live plan first bytes)
