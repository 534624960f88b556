use Rattle.std.proofs.Common.{◌+◌, ◌-◌, ◌*◌, ◌%◌, ◌<◌, ℕ, take, drop}
use Rattle.dcp_pft.specs.Head.{SpellsHead}
use Rattle.dcp_pft.specs.Turning.{HoldsColumns, laid_fragment}
use Rattle.dcp_pft.proofs.write_all.write_laid_out.Given as goal

-- the fragments so far are written, and the columns of the next ones stand
abbrev pub invariant-loop-i : goal.invariant-loop-i
invariant-loop-i l = record {
  fragments : (k : ℕ) → k < l.i → SpellsHead (laid_fragment l.shape l.rs l.seq l.coded k) (take (16 + l.shape.piece) (drop (k * (16 + l.shape.piece)) l.into));
  stand : 0 < l.i % 16 → HoldsColumns l.shape.count (l.i - l.i % 16) l.shape.piece (l.shape.piece + l.shape.piece % 2) l.coded l.columns;
}
