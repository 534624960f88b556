use Rattle.std.proofs.Common.{sym, subst}
use Rattle.capture_reader.specs.declared.look.BytesFront.{BytesFront}
use Rattle.capture_reader.specs.Front.{PftFront}
use Rattle.capture_reader.specs.Looking.{front_of}
use Rattle.capture_reader.proofs.FrontParts.{fragment_found, fragment_refused}
use Rattle.capture_reader.proofs.look.look_at_fragment.Goals as goal

pub returns-in-Ok : goal.returns-in-Ok
returns-in-Ok c = λ bytes part.
    fragment_found c.args.head.now bytes c.args.count c.in-Ok.size _ part c.in-Ok.ensures.right c.in-Ok.ensures.check c.in-Ok.ensures.size c.within.ensures

pub returns-in-Err : goal.returns-in-Err
returns-in-Err c = λ bytes part.
    let P : BytesFront → Type 0 = λ found. PftFront bytes (front_of found) in
    subst P (sym c.found_for.ensures) (fragment_refused c.args.head.now bytes c.args.count c.in-Err.fault part c.requires.sync c.in-Err.ensures.fault)
