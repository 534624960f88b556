use Rattle.mod_feed.proofs.ItemLemmas.{item_is_one}
use Rattle.mod_feed.proofs.laws.one_item.Goals as goal

pub returns : goal.returns
returns c = item_is_one
