use Rattle.live_streams.proofs.ScheduleLemmas.{live_is_one}
use Rattle.live_streams.proofs.laws.live_is_a_schedule.Goals as goal

pub returns : goal.returns
returns c = live_is_one
