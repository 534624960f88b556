use Rattle.dcp_collect.specs.View.{item_of as given_of}
use Rattle.mod_feed.specs.Items.{item_of}
use Rattle.mod_feed.proofs.ItemLemmas.{item_is_one}
use Rattle.mod_feed.proofs.feed.Feed.step.Goals as goal

pub returns-clause-only : goal.returns-clause-only
returns-clause-only c = λ item is.
    item_is_one (given_of c.args.out) item (item_of c.read_item-item.result) is c.read_item-item.ensures.item
