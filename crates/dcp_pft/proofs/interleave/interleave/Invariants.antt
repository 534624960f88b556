use Rattle.std.proofs.Common.{◌≡◌, ◌+◌, ◌-◌, ◌*◌, ◌^◌, ◌<◌, ◌≤◌, ◌++◌, ℕ, length, drop, replicate}
use Rattle.dcp_pft.specs.Coding.{coded, every}
use Rattle.dcp_pft.specs.Interleaving.{payload_with}
use Rattle.dcp_pft.proofs.interleave.interleave.Given as goal

-- the payload that there is in the end if the chunks from this one on come
abbrev pub invariant-loop-i : goal.invariant-loop-i
invariant-loop-i l = record {
  within : l.next.written ≤ length l.into;
  small : l.next.skip < 2 ^ 40;
  all : (c z : ℕ) → c * l.k ≡ length l.packet + z → length l.parity ≡ 48 * c
      → payload_with l.count l.next l.into (coded (c - l.i) l.k (drop (l.i * l.k) (l.packet ++ replicate z 0)) (drop (l.i * 48) l.parity))
      ≡ every l.count l.first (length l.fn.into) (coded c l.k (l.packet ++ replicate z 0) l.parity);
}
