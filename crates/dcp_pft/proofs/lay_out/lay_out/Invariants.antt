use Rattle.std.proofs.Common.{◌≡◌, ◌+◌, ◌-◌, ◌*◌, ◌++◌, ℕ, length, take, drop, replicate}
use Rattle.dcp_pft.specs.Coding.{coded}
use Rattle.dcp_pft.proofs.lay_out.lay_out.Given as goal

-- the chunks so far, and those from this one on, are all
abbrev pub invariant-loop-i : goal.invariant-loop-i
invariant-loop-i l =
    (c z : ℕ) → c * l.k ≡ length l.packet + z → length l.parity ≡ 48 * c
    → take (l.i * (l.k + 48)) l.into ++ coded (c - l.i) l.k (drop (l.i * l.k) (l.packet ++ replicate z 0)) (drop (l.i * 48) l.parity)
    ≡ coded c l.k (l.packet ++ replicate z 0) l.parity
