use Rattle.law_delivery.proofs.Delivered.{delivering as delivering_pairs}
use Rattle.law_delivery.proofs.ForeignDatagrams.{delivering}
use Rattle.law_delivery.proofs.laws.modulators_give.Goals as goal

pub returns : goal.returns
returns c = delivering c.refusing.ensures (delivering_pairs c.collecting.ensures c.the_feed_tells_the_switches.ensures)
