use Rattle.std.proofs.Common.{◌≡◌, List, Bool, take, ◌∙◌, ap, arith, subst}
use Rattle.std.proofs.lemmas.List.{take_all}
use Rattle.drm_bits.specs.Fields.{spelled}
use Rattle.drm_bits.specs.Description.{part_fields}
use Rattle.drm_bits.specs.Sink.{WroteBits}
use Rattle.drm_bits.proofs.WroteLemmas.{each, then, wrote_none, wrote_more}
use Rattle.drm_bits.proofs.PartLemmas.{part_bits, parts_each, part_fits}
use Rattle.drm_bits.proofs.description.write_parts.Goals as goal

pub put_u16-requires-clause-fits : goal.put_u16-requires-clause-fits
put_u16-requires-clause-fits c = (part_fits c.args.parts.now c.loop-part.part-index (record { a = 0; b = 0 }) c.loop-part-test.true c.requires.fits).0

pub put_u16-requires-clause-room : goal.put_u16-requires-clause-room
put_u16-requires-clause-room c = omega (arith, c.loop-part.invariant.left, c.loop-part-test.true, c.requires.room)

pub put_u16-requires-in-loop-part-clause-fits : goal.put_u16-requires-in-loop-part-clause-fits
put_u16-requires-in-loop-part-clause-fits c = (part_fits c.args.parts.now c.loop-part.part-index (record { a = 0; b = 0 }) c.loop-part-test.true c.requires.fits).1

pub put_u16-requires-in-loop-part-clause-room : goal.put_u16-requires-in-loop-part-clause-room
put_u16-requires-in-loop-part-clause-room c = omega (arith, c.loop-part.invariant.left, c.loop-part-test.true, c.requires.room, c.put_u16.ensures.remaining)

pub loop-part-init : goal.loop-part-init
loop-part-init c = record { wrote = wrote_none c.args.sink.now; left = omega arith }

pub loop-part-preserved : goal.loop-part-preserved
loop-part-preserved c =
    record {
      wrote = wrote_more part_bits c.args.parts.now c.loop-part.part-index (record { a = 0; b = 0 }) c.loop-part-test.true c.loop-part.invariant.wrote (then c.put_u16.ensures.wrote c.put_u16-in-loop-part.ensures.wrote);
      left = omega (arith, c.loop-part.invariant.left, c.put_u16.ensures.remaining, c.put_u16-in-loop-part.ensures.remaining);
    }

pub returns-clause-wrote : goal.returns-clause-wrote
returns-clause-wrote c =
    let all : each part_bits (take c.loop-part.part-index c.args.parts.now) ≡ spelled (part_fields c.args.parts.now) =
    ap (each part_bits) (take_all c.loop-part.part-index c.args.parts.now c.loop-part-test.false) ∙ parts_each c.args.parts.now in
    subst (λ (l : List Bool). WroteBits l c.args.sink.now c.loop-part.sink) all c.loop-part.invariant.wrote
