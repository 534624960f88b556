use Rattle.mod_feed.proofs.FeedingLemmas.{feeding_is_one}
use Rattle.mod_feed.proofs.laws.one_feeding.Goals as goal

pub returns : goal.returns
returns c = feeding_is_one
