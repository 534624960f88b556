use Rattle.std.proofs.Common.{◌<◌, ℕ, List, length}
use Rattle.dcp_pft.specs.Head.{SpellsHead, fragment_of}
use Rattle.dcp_pft.specs.Writing.{fragment_at}
use Rattle.dcp_pft.proofs.write_all.write_plain_fragments.Given as goal

-- the fragments so far are written
abbrev pub invariant-loop-i : goal.invariant-loop-i
invariant-loop-i l =
    (parity : List ℕ) (k : ℕ) → k < l.i → SpellsHead (fragment_of l.shape l.seq l.packet parity k) (fragment_at l.shape (length l.packet) k l.into)
