-- Numbers and bytes that are spelled are read again.
use Rattle.std.proofs.Common.{◌≡◌, ℕ, ◌<◌, ◌≤◌, ◌^◌, true, List, length, Some, refl, ap, arith}
use Rattle.std.specs.Prelude.{decimal}
use Rattle.std.specs.Result.{result_ok}
use Rattle.std.specs.Str.Parse.{digits_value}
use Rattle.std.proofs.lemmas.Fmt.{digits_decimal, digits_value-decimal, length-decimal-le, decimal_nonempty}
use Rattle.std.proofs.lemmas.Bool.{le-leb, ne_eqb}
use Rattle.hex.specs.Hex.{encode_lower, IsBytes}
use Rattle.hex.proofs.HexLemmas.{decode_sized-encode_lower, decode_of-encode_lower}
use Rattle.text_lines.specs.Numbers.{is_number, number_of}
use Rattle.text_lines.specs.Hex.{hex_of, bytes_of}
use Rattle.text_lines.proofs.NumberLemmas.{own}

-- the digits of a number of at most ten digits are a number's
pub decimal_is_number : (n : ℕ) → n < 10 ^ 10 → is_number (decimal n) ≡ true
decimal_is_number n short =
    let small : n < 2 ^ 64 = omega arith in
    let some : length (decimal n) ≡ 0 → ⊥ = λ e. omega (arith, decimal_nonempty n small, e) in
    let len : length (decimal n) ≤ 10 = length-decimal-le 10 n (omega arith) short small in
    rw (ne_eqb (length (decimal n)) 0 some, le-leb (length (decimal n)) 10 len, digits_decimal own n small) refl

pub decimal_value : (n : ℕ) → n < 10 ^ 10 → digits_value 10 (decimal n) ≡ n
decimal_value n short = digits_value-decimal own n (omega arith)

pub number_again : (n : ℕ) → n < 10 ^ 10 → number_of (decimal n) ≡ Some n
unfolding number_of
number_again n short = rw (decimal_is_number n short, decimal_value n short) refl

-- bytes in hex are the bytes again
pub hex_again : (n : ℕ) (bs : List ℕ) → length bs ≡ n → IsBytes bs → hex_of n (encode_lower bs) ≡ Some bs
hex_again n bs len bytes = ap result_ok (decode_sized-encode_lower bs n len bytes)

pub bytes_again : (bs : List ℕ) → IsBytes bs → bytes_of (encode_lower bs) ≡ Some bs
bytes_again bs bytes = ap result_ok (decode_of-encode_lower bs bytes)
