use Rattle.std.proofs.Common.{sym, subst}
use Rattle.dcp_collect.specs.View.{item_of as given_of}
use Rattle.mod_feed.specs.Items.{item_of, IsItemOf}
use Rattle.mod_feed.proofs.ReadingLemmas.{of_packet}
use Rattle.mod_feed.proofs.read.read_item.Goals as goal

pub returns-in-Err-clause-read : goal.returns-in-Err-clause-read
returns-in-Err-clause-read c = of_packet c.in-Err.fault c.in-Packet.bytes.now c.in-Err.ensures.fault

pub returns-in-Ok-clause-item : goal.returns-in-Ok-clause-item
returns-in-Ok-clause-item c =
    let carried = c.in-Ok.ensures.carried in
    subst (λ out. IsItemOf (given_of out) (item_of c.item_of_payload.result)) (sym c.in-Packet.is)
    (c.item_of_payload.ensures.item c.in-Packet.bytes.now carried.0 carried.1 carried.2)
