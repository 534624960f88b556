-- Canonical words are spelled, in range, and read again.
use Rattle.std.proofs.Common.{◌≡◌, ℕ, zero, suc, ◌<◌, ◌≤◌, ◌^◌, Bool, true, false, List, [], ◌∷◌, length, drop, Option, Some, None, refl, arith}
use Rattle.std.specs.Prelude.{decimal, IfSome}
use Rattle.std.specs.Int.{to_be_bytes, w16, w32}
use Rattle.std.proofs.lemmas.Bool.{le-leb}
use Rattle.std.proofs.Math.Bool.{and-false}
use Rattle.std.proofs.lemmas.Nat.{from_be_bytes-to_be_bytes_4, from_be_bytes-to_be_bytes_2}
use Rattle.hex.specs.Hex.{encode_lower, encode_with, IsBytes}
use Rattle.text_lines.proofs.SpellingLaws.{decimal_is_number, decimal_value, hex_again, bytes_again}
use Rattle.plan_rows.specs.Words.{WordCheck, number, flag, bit_word, hex, byte_value, hex4_value, hex6_value, hex2, hex4, hex6, is_none_word, optional_byte, optional_byte_value, optional_byte_word, free_bytes, bytes_value, bytes_word, bytes}

-- a part that asks nothing more of its words
pub record Good (p : WordCheck) : Type 0 where
  pub spelled : p.is_spelled ≡ true
  pub ranged : p.in_range ≡ true

pub number_good : (least greatest n : ℕ) → least ≤ n → n ≤ greatest → n < 10 ^ 10 → Good (number least greatest (decimal n))
number_good least greatest n low high small = record {
  spelled = decimal_is_number n small;
  ranged = rw (decimal_value n small, le-leb least n low, le-leb n greatest high) refl;
}

pub bit_good : (b : Bool) → Good (number 0 1 (bit_word b))
bit_good true = record { spelled = refl; ranged = refl }
bit_good false = record { spelled = refl; ranged = refl }

pub flag_again : (b : Bool) → flag (bit_word b) ≡ b
flag_again true = refl
flag_again false = refl

three : (n : ℕ) → IsBytes (drop 1 (to_be_bytes w32 n))
three n zero = omega arith
three n (suc zero) = omega arith
three n (suc (suc zero)) = omega arith
three n (suc (suc (suc i))) = omega arith

pair : (n : ℕ) → IsBytes (to_be_bytes w16 n)
pair n zero = omega arith
pair n (suc zero) = omega arith
pair n (suc (suc i)) = omega arith

pub hex6_good : (n : ℕ) → Good (hex 3 (hex6 n))
hex6_good n = record { spelled = rw (hex_again 3 (drop 1 (to_be_bytes w32 n)) refl (three n)) refl; ranged = refl }

pub hex6_again : (n : ℕ) → n < 2 ^ 24 → hex6_value (hex6 n) ≡ n
hex6_again n small = rw (hex_again 3 (drop 1 (to_be_bytes w32 n)) refl (three n)) (let full = from_be_bytes-to_be_bytes_4 n (omega arith) in omega (arith, full))

pub hex4_good : (n : ℕ) → Good (hex 2 (hex4 n))
hex4_good n = record { spelled = rw (hex_again 2 (to_be_bytes w16 n) refl (pair n)) refl; ranged = refl }

pub hex4_again : (n : ℕ) → n < 2 ^ 16 → hex4_value (hex4 n) ≡ n
hex4_again n small = rw (hex_again 2 (to_be_bytes w16 n) refl (pair n)) (from_be_bytes-to_be_bytes_2 n small)

one_byte : (b : ℕ) → b < 2 ^ 8 → IsBytes (b ∷ [])
one_byte b small zero = small
one_byte b small (suc i) = omega arith

pub byte_good : (b : ℕ) → b < 2 ^ 8 → Good (hex 1 (hex2 b))
byte_good b small = record { spelled = rw (hex_again 1 (b ∷ []) refl (one_byte b small)) refl; ranged = refl }

pub byte_again : (b : ℕ) → b < 2 ^ 8 → byte_value (hex2 b) ≡ b
byte_again b small = rw (hex_again 1 (b ∷ []) refl (one_byte b small)) refl

-- hex digits are not the word for none
hex_not_none : (b : ℕ) (bs : List ℕ) → is_none_word (encode_lower (b ∷ bs)) ≡ false
unfolding encode_with
hex_not_none b bs = and-false _

pub optional_good : (byte : Option ℕ) → IfSome byte (λ b. b < 2 ^ 8) → Good (optional_byte (optional_byte_word byte))
optional_good None fits = record { spelled = refl; ranged = refl }
optional_good (Some b) fits = record { spelled = rw (hex_not_none b [], hex_again 1 (b ∷ []) refl (one_byte b fits)) refl; ranged = refl }

pub optional_again : (byte : Option ℕ) → IfSome byte (λ b. b < 2 ^ 8) → optional_byte_value (optional_byte_word byte) ≡ byte
optional_again None fits = refl
optional_again (Some b) fits = rw (hex_not_none b [], hex_again 1 (b ∷ []) refl (one_byte b fits)) refl

free_again : (bs : List ℕ) → IsBytes bs → free_bytes (bytes_word bs) ≡ Some bs
free_again [] are = refl
free_again (b ∷ bs) are = rw (hex_not_none b bs) (bytes_again (b ∷ bs) are)

pub bytes_good : (most : ℕ) (bs : List ℕ) → length bs ≤ most → IsBytes bs → Good (bytes most (bytes_word bs))
bytes_good most bs few are = record { spelled = rw (free_again bs are) refl; ranged = rw (free_again bs are) (le-leb (length bs) most few) }

pub bytes_value_again : (bs : List ℕ) → IsBytes bs → bytes_value (bytes_word bs) ≡ bs
bytes_value_again bs are = rw (free_again bs are) refl
