use Rattle.mod_feed.proofs.FeedingLemmas.{feedings_join}
use Rattle.mod_feed.proofs.laws.feeding_joins.Goals as goal

pub returns : goal.returns
returns c = feedings_join
