use Rattle.std.proofs.Common.{rules}
use Rattle.dcp_pft.proofs.Halved.{halves_here, halves_before}
use Rattle.dcp_pft.proofs.turn.halve_part.Goals as goal

pub returns-clause-here : goal.returns-clause-here
returns-clause-here c =
    halves_here c.args.half c.args.at c.args.from.now c.args.into.now c.evens.result c.odds.result c.requires.within c.requires.into (search rules) (search rules) c.evens.ensures c.odds.ensures

pub returns-clause-before : goal.returns-clause-before
returns-clause-before c =
    halves_before c.args.half c.args.at c.args.from.now c.args.into.now c.evens.result c.odds.result c.requires.within c.requires.into (search rules) (search rules)
