use Rattle.law_delivery.proofs.Delivered.{delivering}
use Rattle.law_delivery.proofs.Early.{pairs_early}
use Rattle.law_delivery.proofs.ForeignDatagrams.{delivering_early}
use Rattle.law_delivery.proofs.laws.modulators_give_early.Goals as goal

pub returns : goal.returns
returns c =
    delivering_early c.refusing.ensures
    (pairs_early (delivering c.collecting.ensures c.the_feed_tells_the_switches.ensures) c.one_reading.ensures c.steps_join.ensures c.giving_ends.ensures)
