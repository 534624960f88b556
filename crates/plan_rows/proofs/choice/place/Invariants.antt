use Rattle.std.proofs.Common.{◌≡◌, drop, map}
use Rattle.plan_rows.specs.Choices.{place_from}
use Rattle.plan_rows.proofs.choice.place.Given as goal

abbrev pub invariant-loop-k : goal.invariant-loop-k
invariant-loop-k l = place_from l.k (map (λ w. w.now) (drop l.k l.words)) l.word ≡ place_from 0 (map (λ w. w.now) l.words) l.word
