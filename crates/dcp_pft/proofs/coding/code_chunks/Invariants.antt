use Rattle.std.proofs.Common.{◌≡◌, ◌+◌, ◌*◌, ◌<◌, ◌++◌, ℕ, length, take, drop, replicate}
use Rattle.rs_erase.specs.Code.{IsCodeWord, word_of}
use Rattle.dcp_pft.proofs.coding.code_chunks.Given as goal

abbrev pub invariant-loop-i : goal.invariant-loop-i
invariant-loop-i l =
    (c z : ℕ) → c * l.k ≡ length l.packet + z → z < l.k → length l.parity ≡ 48 * c
    → (j : ℕ) → j < l.i
    → IsCodeWord (word_of (take l.k (drop (j * l.k) (l.packet ++ replicate z 0))) (take 48 (drop (j * 48) l.parity)))
