use Rattle.std.proofs.Common.{◌≡◌, ◌-◌, ◌*◌, ◌≤◌, ◌++◌, length, take, drop}
use Rattle.drm_links.specs.Sink.{OutputsText}
use Rattle.report_text.specs.HexBits.{hex_of_bits}
use Rattle.report_text.proofs.hex_bits.write_digits.Given as goal

-- what was written so far, and the digits that are left, are all
abbrev pub invariant-loop-left : goal.invariant-loop-left
invariant-loop-left g l =
    record {
      few : l.left ≤ l.count;
      bits : l.bits ≡ drop (4 * (l.count - l.left)) l.fn.bits;
      enough : 4 * l.left ≤ length l.bits;
      written :
          OutputsText (g.O.Sink.known l.fn.out) (g.O.Sink.known l.out) (λ text.
          text ++ hex_of_bits (take (4 * l.left) l.bits) ≡ hex_of_bits (take (4 * l.count) l.fn.bits));
      same : (g.O.Sink.known l.out).faults ≡ (g.O.Sink.known l.fn.out).faults;
    }

abbrev pub decreases-loop-left : goal.decreases-loop-left
decreases-loop-left g l = l.left
