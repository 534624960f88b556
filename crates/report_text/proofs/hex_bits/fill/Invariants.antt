use Rattle.std.proofs.Common.{◌≡◌, ◌*◌, length, take, drop}
use Rattle.report_text.specs.HexBits.{hex_of_bits}
use Rattle.report_text.proofs.hex_bits.fill.Given as goal

abbrev pub invariant-loop-i : goal.invariant-loop-i
invariant-loop-i l = record {
  long : length l.digits ≡ 64;
  digits : take l.i l.digits ≡ hex_of_bits (take (4 * l.i) l.fn.bits);
  bits : l.bits ≡ drop (4 * l.i) l.fn.bits;
}
