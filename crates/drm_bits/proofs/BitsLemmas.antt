-- Lengths, single digits and values of bit lists.
use Rattle.std.proofs.Common.{◌≡◌, ℕ, zero, suc, ◌+◌, ◌-◌, ◌*◌, ◌/◌, ◌%◌, ◌^◌, ◌<◌, nat_eq, Bool, true, false, List, [], ◌∷◌, ◌++◌, length, get_or, take, drop, refl, ◌∙◌, ap, arith, length-append, inl, inr}
use Rattle.std.proofs.Math.Nat.{div-eq_of_lt, mod-eq_of_lt, div-eq-sub-div, mod-eq-sub-mod, pow-suc}
use Rattle.std.proofs.lemmas.Bool.{cases_lt}
use Rattle.std.proofs.lemmas.List.{drop_more, take_more, get_or_append_left, get_or-append_right}
use Rattle.std.proofs.lemmas.Nat.{pow-add}
use Rattle.std.proofs.lemmas.Grind.{common_steps}
use Rattle.std.specs.Int.{from_bool}
use Rattle.drm_bits.specs.Bits.{value, digits, bits_of}

pub length-digits : (w n : ℕ) → length (digits w n) ≡ w
unfolding digits
length-digits zero n = refl
length-digits (suc w) n = ap suc (length-digits w n)

pub length-bits_of : (bytes : List ℕ) → length (bits_of bytes) ≡ 8 * length bytes
unfolding digits
length-bits_of [] = refl
length-bits_of (b ∷ bytes) =
    let below = length-bits_of bytes in omega (arith, length-append (digits 8 b) (bits_of bytes), below)

-- the digit at a place of a number
pub get_or-digits : (w n k : ℕ) → k < w → get_or (digits w n) k false ≡ nat_eq (n / 2 ^ (w - 1 - k) % 2) 1
unfolding digits
get_or-digits zero n k h = absurd (omega (arith, h))
get_or-digits (suc w) n zero h = let e : suc w - 1 - zero ≡ w = omega arith in rw e refl
get_or-digits (suc w) n (suc k) h =
    let lower : k < w = omega (arith, h) in
    let e : suc w - 1 - suc k ≡ w - 1 - k = omega arith in
    rw e (get_or-digits w n k lower)

-- the digit at a place of a byte list
pub get_or-bits_of : (bytes : List ℕ) (k : ℕ) → k < 8 * length bytes → get_or (bits_of bytes) k false ≡ nat_eq (get_or bytes (k / 8) 0 / 2 ^ (7 - k % 8) % 2) 1
get_or-bits_of [] k h = absurd (omega (arith, h))
get_or-bits_of (b ∷ bytes) k h =
    elim (cases_lt k 8) [
      | inl lt ↦
          let div : k / 8 ≡ 0 = div-eq_of_lt lt in
          let remainder : k % 8 ≡ k = mod-eq_of_lt lt in
          let within : k < length (digits 8 b) = omega (arith, length-digits 8 b, lt) in
          get_or_append_left (digits 8 b) (bits_of bytes) false k within ∙ (get_or-digits 8 b k lt ∙ rw (div, remainder) refl)
      | inr ge ↦
          let div : k / 8 ≡ suc ((k - 8) / 8) = div-eq-sub-div (omega arith) ge ∙ omega arith in
          let remainder : k % 8 ≡ (k - 8) % 8 = mod-eq-sub-mod ge in
          let within : k - 8 < 8 * length bytes = omega (arith, h, ge) in
          get_or-append_right (digits 8 b) (bits_of bytes) 8 k false (length-digits 8 b) ge ∙ (get_or-bits_of bytes (k - 8) within ∙ rw (div, remainder) refl)
    ]

pub value-push : (bs : List Bool) (b : Bool) → value (bs ++ b ∷ []) ≡ 2 * value bs + from_bool b
value-push [] b = grind arith
value-push (a ∷ bs) b =
    let rest = value-push bs b in
    let more : length (bs ++ b ∷ []) ≡ length bs + 1 = omega (arith, length-append bs (b ∷ [])) in
    rw (more, rest, pow-add 2 (length bs) 1) (grind arith)

pub value-below : (bs : List Bool) → value bs < 2 ^ length bs
value-below [] = omega arith
value-below (true ∷ bs) = omega (arith, value-below bs, pow-suc 2 (length bs))
value-below (false ∷ bs) = omega (arith, value-below bs, pow-suc 2 (length bs))

-- one more bit is taken
pub take-step : (bs rest : List Bool) (b : Bool) (k n : ℕ) → n ≡ value (take k bs) → (b ∷ rest) ≡ drop k bs → (2 * n + from_bool b ≡ value (take (k + 1) bs)) × (rest ≡ drop (k + 1) bs)
take-step bs rest b k n is_value is_rest =
    let some : k < length bs = grind (arith, common_steps, ap length is_rest) in
    let split = drop_more bs k false some in
    let same : b ∷ rest ≡ get_or bs k false ∷ drop (k + 1) bs = is_rest ∙ split in
    let first : get_or bs k false ≡ b = cc in
    (rw (take_more bs k false some, first, value-push (take k bs) b, is_value) refl, cc)

pub doubled-below : (n k : ℕ) (b : Bool) → n < 2 ^ k → 2 * n + from_bool b < 2 ^ (k + 1)
doubled-below n k true below = omega (arith, pow-add 2 k 1)
doubled-below n k false below = omega (arith, pow-add 2 k 1)
