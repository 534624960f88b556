use Rattle.std.proofs.Common.{◌≡◌, true, map, take}
use Rattle.std.specs.Prelude.{nat_le}
use Rattle.std.specs.List.{list_all}
use Rattle.plan_rows.specs.Frequencies.{channel, digits}
use Rattle.plan_rows.specs.Words.{value}
use Rattle.plan_rows.proofs.frequencies.channels.Given as goal

abbrev pub invariant-loop-element : goal.invariant-loop-element
invariant-loop-element l =
    (l.channels ≡ map (λ e. channel e.now) (take l.element-index l.elements))
    × (list_all (λ e. nat_le (value (digits e.now)) 32767) (take l.element-index l.elements) ≡ true)
