use Rattle.std.proofs.Common.{◌≡◌, map, drop}
use Rattle.plan_rows.specs.Rows.{all_suit}
use Rattle.plan_rows.proofs.read.all_suit.Given as goal

abbrev pub invariant-loop-i : goal.invariant-loop-i
invariant-loop-i l = all_suit (drop l.i l.fields) (map (λ w. w.now) (drop l.i l.words)) ≡ all_suit l.fields (map (λ w. w.now) l.words)
