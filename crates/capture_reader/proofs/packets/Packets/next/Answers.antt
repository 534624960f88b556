use Rattle.std.proofs.Common.{refl, subst}
use Rattle.capture_reader.specs.Walking.{WalkerState}
use Rattle.capture_reader.proofs.ReadingLemmas.{GaveOf, gave_one, leaves_one}
use Rattle.capture_reader.proofs.packets.Packets.next.Goals as goal

pub returns : goal.returns
returns c =
    let gives = rw c.in-Ok-Some.field-0-is at c.in-Ok-Some.ensures.gives in
    let after = leaves_one c.next_packet.result c.in-Ok-Some.field-0 c.in-Ok-Some.packet c.self.inside.walker c.next_packet.follows.lender-at-none c.in-Ok-Some.is c.in-Ok-Some.field-0-is c.next_packet.follows.holds-at-none in
    let P : WalkerState → Type 0 = λ w. GaveOf c.in-Ok-Some.packet.at c.in-Ok-Some.packet.bytes.now w c.next_packet.follows.lender-at-none in
    let one : GaveOf c.in-Ok-Some.packet.at c.in-Ok-Some.packet.bytes.now c.args.self.now c.next_packet.follows.lender-at-none =
    subst P c.self.view_is (gave_one c.in-Ok-Some.packet.at gives.1.0 c.in-Ok-Some.packet.bytes.now c.self.inside.walker c.next_packet.follows.lender-at-none gives.0 gives.1.1 gives.1.2 after) in
    ((refl, (λ _. tt), one.gave), record { at = one.at; whole = one.whole; bytes = one.front; after = tt })
