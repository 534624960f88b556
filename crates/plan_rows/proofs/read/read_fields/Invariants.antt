use Rattle.std.proofs.Common.{◌≡◌, map}
use Rattle.plan_rows.specs.Rows.{spells}
use Rattle.plan_rows.proofs.Reading.{after, rest_spells}
use Rattle.plan_rows.proofs.read.read_fields.Given as goal

abbrev pub invariant-loop-i : goal.invariant-loop-i
invariant-loop-i l = after l.wrong l.values.items (rest_spells l.fields l.words l.i) ≡ spells l.fields (map (λ w. w.now) l.words)
