use Rattle.std.proofs.Common.{◌≡◌, ◌+◌, [], map, drop}
use Rattle.plan_script.specs.Steps.{AreCounted, feeds_in, lines_after}
use Rattle.plan_script.proofs.rules.read_all.Given as goal

abbrev pub invariant-loop-i : goal.invariant-loop-i
invariant-loop-i l =
    (lines_after l.plan (feeds_in l.feeds) (l.i + 1) (map (λ w. w.now) (drop l.i l.lines)) ≡ lines_after l.plan [] 1 (map (λ w. w.now) l.lines))
    × AreCounted l.plan l.feeds
