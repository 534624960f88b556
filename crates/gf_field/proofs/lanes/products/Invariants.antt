use Rattle.std.proofs.Common.{◌≡◌}
use lib.Lanes.{zip2}
use Rattle.gf_field.proofs.LaneProducts.{part}
use Rattle.gf_field.proofs.lanes.products.Given as goal

abbrev pub invariant-loop-bit : goal.invariant-loop-bit
invariant-loop-bit l = l.product ≡ zip2 (part l.bit) l.a l.b
