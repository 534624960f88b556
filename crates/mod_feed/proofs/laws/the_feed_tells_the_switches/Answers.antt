use Rattle.mod_feed.proofs.FeedingLemmas.{feed_tells}
use Rattle.mod_feed.proofs.laws.the_feed_tells_the_switches.Goals as goal

pub returns : goal.returns
returns c = feed_tells
