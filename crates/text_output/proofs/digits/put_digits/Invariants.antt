use Rattle.std.proofs.Common.{◌≡◌, ◌*◌, length, take}
use Rattle.hex.specs.Hex.{encode_lower}
use Rattle.text_output.proofs.digits.put_digits.Given as goal

-- the digits of the bytes before this place
abbrev pub invariant-loop-i : goal.invariant-loop-i
invariant-loop-i l = record {
  long : length l.digits ≡ 2 * length l.bytes;
  put : take (32 * l.i) l.digits ≡ encode_lower (take (16 * l.i) l.bytes);
}
