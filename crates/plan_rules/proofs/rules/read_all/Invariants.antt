use Rattle.std.proofs.Common.{◌≡◌, ◌+◌, map, drop}
use Rattle.std.specs.Prelude.{All}
use Rattle.plan_rules.specs.ParsedLine.{nothing}
use Rattle.plan_rules.specs.Rules.{said_from}
use Rattle.plan_rules.specs.InLines.{IsSingle, ReadInLines}
use Rattle.plan_rules.proofs.rules.read_all.Given as goal

abbrev pub invariant-loop-i : goal.invariant-loop-i
invariant-loop-i l =
    (said_from l.read (l.i + 1) (map (λ w. w.now) (drop l.i l.lines)) ≡ said_from nothing 1 (map (λ w. w.now) l.lines))
    × (All (λ line. IsSingle line.now) l.lines → ReadInLines l.read)
