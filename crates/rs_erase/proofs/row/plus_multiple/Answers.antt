use Rattle.std.proofs.Common.{map, rules, subst, sym, ℕ, ◌≡◌, bit_xor}
use lib.Lanes.{zip2}
use Rattle.gf_field.specs.Field.{times}
use Rattle.rs_erase.proofs.LaneRows.{zero_lanes}
use Rattle.rs_erase.proofs.row.plus_multiple.Goals as goal

pub returns-then-factor-eq0 : goal.returns-then-factor-eq0
returns-then-factor-eq0 c =
    subst (λ (f : ℕ). c.args.lanes ≡ zip2 bit_xor c.args.lanes (map (times f) c.args.others)) (sym c.if-factor-eq0.true)
    (zero_lanes c.args.lanes c.args.others (search rules))
