use Rattle.std.proofs.Common.{◌≡◌, ℕ, List, ap, ap₂, ◌∙◌, arith, map, bit_xor}
use lib.Lanes.{zip2}
use Rattle.gf_field.specs.Field.{times}
use Rattle.gf_field.proofs.LaneProducts.{part, part_lanes, part_none, part_whole}
use Rattle.gf_field.proofs.lanes.products.Goals as goal

pub loop-bit-init : goal.loop-bit-init
loop-bit-init c = part_none 16 c.args.a c.args.b c.fits-a.0 c.fits-b.0

pub loop-bit-preserved : goal.loop-bit-preserved
loop-bit-preserved c =
    ap₂ (λ (p q : List ℕ). zip2 bit_xor p q) (c.doubled.ensures ∙ ap (map (times 2)) c.loop-bit.invariant) c.chosen.ensures
    ∙ part_lanes c.loop-bit.bit c.args.a c.args.b c.loop-bit-test.true c.fits-b.1

pub returns : goal.returns
returns c =
    let last : c.loop-bit.bit ≡ 8 = omega arith in
    c.loop-bit.invariant ∙ ap (λ (k : ℕ). zip2 (part k) c.args.a c.args.b) last ∙ part_whole c.args.a c.args.b c.fits-a.1 c.fits-b.1
