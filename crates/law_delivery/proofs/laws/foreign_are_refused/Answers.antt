use Rattle.law_delivery.proofs.Delivered.{delivering}
use Rattle.law_delivery.proofs.Early.{pairs_right}
use Rattle.law_delivery.proofs.ForeignDatagrams.{foreign_refused}
use Rattle.law_delivery.proofs.laws.foreign_are_refused.Goals as goal

pub returns : goal.returns
returns c =
    foreign_refused c.refusing.ensures
    (pairs_right (delivering c.collecting.ensures c.the_feed_tells_the_switches.ensures) c.one_reading.ensures c.steps_join.ensures c.giving_ends.ensures)
