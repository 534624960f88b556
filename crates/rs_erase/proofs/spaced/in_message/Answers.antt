use Rattle.rs_erase.proofs.SpacedSums.{in_message_to}
use Rattle.rs_erase.proofs.spaced.in_message.Goals as goal

pub returns-then-place-ge207 : goal.returns-then-place-ge207
returns-then-place-ge207 c =
    in_message_to c.args.places.now c.loop-j.j c.requires c.loop-j-test.true c.loop-j.invariant c.if-place-ge207.true
