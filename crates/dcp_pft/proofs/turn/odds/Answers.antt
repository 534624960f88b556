use Rattle.std.proofs.Common.{ℕ, ◌++◌, ◌+◌, ◌*◌, get_or, arith}
use Rattle.std.proofs.lemmas.List.FromFn.{get_or-map-range_with_len}
use Rattle.dcp_pft.proofs.turn.odds.Goals as goal

pub returns : goal.returns
returns c = λ l below. get_or-map-range_with_len (λ (j : ℕ). get_or (c.args.first ++ c.args.second) (2 * j + 1) 0) 0 16 l l 0 below (omega arith)
