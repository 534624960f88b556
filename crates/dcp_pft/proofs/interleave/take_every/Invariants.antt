use Rattle.std.proofs.Common.{◌≡◌, ◌-◌, ◌^◌, ◌<◌, ◌≤◌, ◌++◌, ℕ, List, length}
use Rattle.dcp_pft.specs.Interleaving.{payload_with}
use Rattle.dcp_pft.proofs.interleave.take_every.Given as goal

-- the payload that there is in the end stays the same, whatever comes behind these bytes
abbrev pub invariant-loop-at : goal.invariant-loop-at
invariant-loop-at l = record {
  within : l.written ≤ length l.into;
  small : l.at < 2 ^ 40;
  all : (rest : List ℕ) → payload_with l.count (record { written = l.written; skip = l.at }) l.into (l.bytes ++ rest)
      ≡ payload_with l.count l.fn.from l.fn.into (l.bytes ++ rest);
}

abbrev pub decreases-loop-at : goal.decreases-loop-at
decreases-loop-at l = length l.into - l.written
