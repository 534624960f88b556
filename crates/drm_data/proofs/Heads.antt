-- The first byte of a packet and its fields.
use Rattle.std.proofs.Common.{◌≡◌, ℕ, ◌+◌, ◌*◌, ◌/◌, ◌%◌, ◌==◌, ◌<◌, Bool, true, false, ap, arith}
use Rattle.std.specs.Int.{from_bool}
use Rattle.drm_bits.proofs.DigitsLemmas.{bit_again}
use Rattle.drm_data.specs.Reading.{flag_at}

pub flag_lt : (b : Bool) → from_bool b < 2
flag_lt true = omega arith
flag_lt false = omega arith

is_flag : (n : ℕ) (b : Bool) → n ≡ from_bool b → (n == 1) ≡ b
is_flag n true is = ap (λ k. k == 1) is
is_flag n false is = ap (λ k. k == 1) is

-- the byte of these fields
abbrev pub head_byte : Bool → Bool → ℕ → Bool → ℕ → ℕ
head_byte first last id padded continuity =
    128 * from_bool first + 64 * from_bool last + 16 * id + 8 * from_bool padded + continuity

pub record AreFields (byte : ℕ) (first last : Bool) (id : ℕ) (padded : Bool) (continuity : ℕ) : Type 0 where
  pub small : byte < 256
  pub first_is : flag_at 128 byte ≡ first
  pub last_is : flag_at 64 byte ≡ last
  pub id_is : byte / 16 % 4 ≡ id
  pub padded_is : flag_at 8 byte ≡ padded
  pub continuity_is : byte % 8 ≡ continuity

parts : (f l i p c : ℕ) → f < 2 → l < 2 → i < 4 → p < 2 → c < 8
    → let n = 128 * f + 64 * l + 16 * i + 8 * p + c in (n < 256) × (n / 128 % 2 ≡ f) × (n / 64 % 2 ≡ l) × (n / 16 % 4 ≡ i) × (n / 8 % 2 ≡ p) × (n % 8 ≡ c)
parts f l i p c hf hl hi hp hc = (omega arith, omega arith, omega arith, omega arith, omega arith, omega arith)

-- what a byte that is made of fields says
pub fields_of_head : (first last : Bool) (id : ℕ) (padded : Bool) (continuity : ℕ) → id < 4 → continuity < 8
    → AreFields (head_byte first last id padded continuity) first last id padded continuity
fields_of_head first last id padded continuity small few =
    let p = parts (from_bool first) (from_bool last) id (from_bool padded) continuity (flag_lt first) (flag_lt last) small (flag_lt padded) few in
    record {
      small = p.0;
      first_is = is_flag _ first p.1;
      last_is = is_flag _ last p.2;
      id_is = p.3;
      padded_is = is_flag _ padded p.4;
      continuity_is = p.5;
    }

-- a byte is made of its fields
pub head_of_fields : (byte : ℕ) → byte < 256 → byte ≡ head_byte (flag_at 128 byte) (flag_at 64 byte) (byte / 16 % 4) (flag_at 8 byte) (byte % 8)
head_of_fields byte small =
    omega (arith, bit_again (byte / 128 % 2) (omega arith), bit_again (byte / 64 % 2) (omega arith), bit_again (byte / 8 % 2) (omega arith))
