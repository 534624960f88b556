-- Check values that a shifted register computes, at any width.
use Rattle.std.proofs.Common.{◌≡◌, ℕ, zero, suc, ◌+◌, ◌*◌, ◌/◌, ◌%◌, ◌^◌, ◌<◌, nat_eq, Bool, true, false, not, List, [], ◌∷◌, ◌++◌, length, take, get_or, replicate, refl, sym, ◌∙◌, ap, subst, arith, append_assoc, length-append, bit_and, bit_xor}
use Rattle.std.proofs.lemmas.List.{append-nil, length-map, length-replicate, take_more}
use Rattle.std.proofs.lemmas.Nat.{pow_pos}
use Rattle.std.proofs.lemmas.Nat.Bits.{and_pow, bit_at-lt}
use Rattle.std.specs.Int.{bit_at, bit_not, Width}
use mir.Val.{bits}
use Rattle.drm_bits.specs.Bits.{value, digits, bits_of}
use Rattle.drm_bits.specs.Crc.{plus, sum, zeros, times, complement, IsMultiple, prepared, IsCheck, IsCheckOf, crc8_polynomial, crc16_polynomial}
use Rattle.drm_bits.proofs.BitsLemmas.{length-digits}
use Rattle.drm_bits.proofs.DigitsLemmas.{digits-push, digits-doubled, digits-xor, digits-not, value-digits}
use Rattle.std.proofs.Math.Nat.{mul-div_cancel, mul-mod_left, mul_assoc, pow-suc}
use Rattle.drm_bits.proofs.Polynomials.{sum-zeros, zeros-push}
use Rattle.drm_bits.proofs.Registers.{step, run, length-run, run-append, run_at_once, Keeps, Keeps-start, Keeps-run, same_rest}

pub complement-complement : (bits : List Bool) → complement (complement bits) ≡ bits
complement-complement [] = refl
complement-complement (true ∷ bits) = ap (λ l. true ∷ l) (complement-complement bits)
complement-complement (false ∷ bits) = ap (λ l. false ∷ l) (complement-complement bits)

one_of_two : (x p : ℕ) → x < 2 → 0 < p → (x * p ≡ 0 → x ≡ 0) × ((x * p ≡ 0 → ⊥) → x ≡ 1)
one_of_two zero p h pos = (λ e. refl, λ none. absurd (none (omega arith)))
one_of_two (suc zero) p h pos = (λ e. absurd (omega (arith, e, pos)), λ none. refl)
one_of_two (suc (suc x)) p h pos = absurd (omega (arith, h))

-- a shift where no 1 falls out
pub step_clear : (w n low : ℕ) → bit_and n (2 ^ w) ≡ 0 → digits (suc w) (n * 2 % 2 ^ suc w) ≡ step (digits (suc w) low) (digits (suc w) n) false
unfolding digits
step_clear w n low clear =
    let top : bit_at n w ≡ 0 = (one_of_two (bit_at n w) (2 ^ w) (bit_at-lt n w) (pow_pos w)).0 (sym (and_pow n w) ∙ clear) in
    let shifted : List Bool = digits w n ++ false ∷ [] in
    let size : length shifted ≡ length (digits (suc w) low) = omega (arith, length-append (digits w n) (false ∷ []), length-digits w n, length-digits (suc w) low) in
    digits-doubled w n
    ∙ (sym (sum-zeros shifted (length (digits (suc w) low)) size)
    ∙ ap (λ k. sum shifted (times (plus (nat_eq k 1) false) (digits (suc w) low))) (sym top))

-- a shift where a 1 falls out
pub step_set : (w n low : ℕ) → (bit_and n (2 ^ w) ≡ 0 → ⊥) → digits (suc w) (bit_xor (n * 2 % 2 ^ suc w) low) ≡ step (digits (suc w) low) (digits (suc w) n) false
unfolding digits
step_set w n low set =
    let top : bit_at n w ≡ 1 = (one_of_two (bit_at n w) (2 ^ w) (bit_at-lt n w) (pow_pos w)).1 (λ e. set (and_pow n w ∙ e)) in
    let shifted : List Bool = digits w n ++ false ∷ [] in
    digits-xor (suc w) (n * 2 % 2 ^ suc w) low
    ∙ (ap (λ l. sum l (digits (suc w) low)) (digits-doubled w n)
    ∙ ap (λ k. sum shifted (times (plus (nat_eq k 1) false) (digits (suc w) low))) (sym top))

pub run-zero : (low register : List Bool) (k : ℕ) → run low register (zeros (k + 1)) ≡ step low (run low register (zeros k)) false
run-zero low register k =
    let longer : k + 1 ≡ suc k = omega arith in
    ap (λ n. run low register (zeros n)) longer
    ∙ (ap (λ l. run low register l) (sym (zeros-push k)) ∙ run-append low register (zeros k) (false ∷ []))

pub bits_of-append : (front back : List ℕ) → bits_of (front ++ back) ≡ bits_of front ++ bits_of back
bits_of-append [] back = refl
bits_of-append (b ∷ front) back = ap (λ l. digits 8 b ++ l) (bits_of-append front back) ∙ sym (append_assoc (digits 8 b) (bits_of front) (bits_of back))

pub bits_of-push : (bytes : List ℕ) (byte : ℕ) → bits_of (bytes ++ byte ∷ []) ≡ bits_of bytes ++ digits 8 byte
bits_of-push bytes byte = bits_of-append bytes (byte ∷ []) ∙ ap (λ l. bits_of bytes ++ l) (append-nil (digits 8 byte))

pub bits_of-more : (bytes : List ℕ) (i : ℕ) → i < length bytes → bits_of (take (i + 1) bytes) ≡ bits_of (take i bytes) ++ digits 8 (get_or bytes i 0)
bits_of-more bytes i within = ap bits_of (take_more bytes i 0 within) ∙ bits_of-push (take i bytes) (get_or bytes i 0)

-- a check value is the complement of the rest that the register keeps
check_from_rest : (low bits check : List Bool) → length check ≡ length low → Keeps low bits (complement check) → IsCheck (true ∷ low) bits check
check_from_rest low bits check size keeps =
    let P : ℕ → Type 0 = λ w. IsMultiple (true ∷ low) (sum (prepared w bits) (zeros (length bits) ++ complement check)) in
    record { width = omega (arith, size); multiple = subst P (sym size) keeps }

rest_from_check : (low bits check : List Bool) → IsCheck (true ∷ low) bits check → (length check ≡ length low) × Keeps low bits (complement check)
rest_from_check low bits check is =
    let size : length check ≡ length low = omega (arith, is.width) in
    let P : ℕ → Type 0 = λ w. IsMultiple (true ∷ low) (sum (prepared w bits) (zeros (length bits) ++ complement check)) in
    (size, subst P size is.multiple)

-- No bit was taken: the register has ones alone.
pub check-start : (low ones : List Bool) → ones ≡ replicate (length low) true → IsCheck (true ∷ low) [] (complement ones)
check-start low ones is =
    let P : List Bool → Type 0 = λ l. Keeps low [] l in
    let size : length ones ≡ length low = ap length is ∙ length-replicate (length low) true in
    check_from_rest low [] (complement ones) (length-map ones not ∙ size) (subst P (sym (complement-complement ones ∙ is)) (Keeps-start low))

-- More bits were shifted through the register.
pub check-more : (low bits more before after : List Bool) → 0 < length low → after ≡ run low before more → IsCheck (true ∷ low) bits (complement before) → IsCheck (true ∷ low) (bits ++ more) (complement after)
check-more low bits more before after some is check =
    let P : List Bool → Type 0 = λ l. Keeps low bits l in
    let Q : List Bool → Type 0 = λ l. Keeps low (bits ++ more) l in
    let kept = rest_from_check low bits (complement before) check in
    let size : length before ≡ length low = sym (length-map before not) ∙ kept.0 in
    let keeps : Keeps low bits before = subst P (complement-complement before) kept.1 in
    let size_after : length after ≡ length low = ap length is ∙ length-run low before more size in
    let keeps_after : Keeps low (bits ++ more) after = subst Q (sym is) (Keeps-run low bits more before some size keeps) in
    check_from_rest low (bits ++ more) (complement after) (length-map after not ∙ size_after) (subst Q (sym (complement-complement after)) keeps_after)

-- Bits have one check value.
pub check-unique : (w : ℕ) (low bits : List Bool) (m n : ℕ) → m < 2 ^ w → n < 2 ^ w → IsCheck (true ∷ low) bits (digits w m) → IsCheck (true ∷ low) bits (digits w n) → m ≡ n
check-unique w low bits m n below_m below_n is_m is_n =
    let rest_m = rest_from_check low bits (digits w m) is_m in
    let rest_n = rest_from_check low bits (digits w n) is_n in
    let same : complement (digits w m) ≡ complement (digits w n) =
    same_rest low bits (complement (digits w m)) (complement (digits w n)) (length-map (digits w m) not ∙ rest_m.0) (length-map (digits w n) not ∙ rest_n.0) rest_m.1 rest_n.1 in
    let digits_same : digits w m ≡ digits w n = sym (complement-complement (digits w m)) ∙ (ap complement same ∙ complement-complement (digits w n)) in
    sym (value-digits w m below_m) ∙ (ap value digits_same ∙ value-digits w n below_n)

-- a byte at the front of a wider register
pub digits-shifted : (k b : ℕ) → digits (k + 8) (b * 2 ^ k) ≡ digits 8 b ++ zeros k
digits-shifted zero b = ap (λ n. digits 8 n) (omega arith) ∙ sym (append-nil (digits 8 b))
digits-shifted (suc k) b =
    let more : b * 2 ^ suc k ≡ b * 2 ^ k * 2 = ap (λ n. b * n) (pow-suc 2 k) ∙ sym (mul_assoc b (2 ^ k) 2) in
    let width : suc k + 8 ≡ suc (k + 8) = omega arith in
    ap (λ w. digits w (b * 2 ^ suc k)) width
    ∙ (digits-push (k + 8) (b * 2 ^ suc k)
    ∙ (ap (λ n. digits (k + 8) (n / 2) ++ nat_eq (n % 2) 1 ∷ []) more
    ∙ (ap (λ n. digits (k + 8) n ++ nat_eq (b * 2 ^ k * 2 % 2) 1 ∷ []) (mul-div_cancel (b * 2 ^ k) (omega arith))
    ∙ (ap (λ n. digits (k + 8) (b * 2 ^ k) ++ nat_eq n 1 ∷ []) (mul-mod_left (b * 2 ^ k) 2)
    ∙ (ap (λ l. l ++ false ∷ []) (digits-shifted k b)
    ∙ (append_assoc (digits 8 b) (zeros k) (false ∷ []) ∙ ap (λ l. digits 8 b ++ l) (zeros-push k)))))))

-- A byte is added to the front of a register with k bits more, and then shifted out.
pub byte_taken : (k : ℕ) (low : List Bool) (before byte shifted after n : ℕ) → length low ≡ k + 8 → n ≡ 8 → shifted ≡ byte * 2 ^ k
    → digits (k + 8) after ≡ run low (digits (k + 8) (bit_xor before shifted)) (zeros n)
    → digits (k + 8) after ≡ run low (digits (k + 8) before) (digits 8 byte)
byte_taken k low before byte shifted after n size eight is_shifted is_after =
    let w : ℕ = k + 8 in
    let size_before : length (digits w before) ≡ length low = length-digits w before ∙ sym size in
    let fits : length (digits 8 byte) + k ≡ length (digits w before) = omega (arith, length-digits 8 byte, length-digits w before) in
    let eight_bits : zeros n ≡ zeros (length (digits 8 byte)) = ap zeros (eight ∙ sym (length-digits 8 byte)) in
    is_after
    ∙ (ap (λ l. run low (digits w (bit_xor before shifted)) l) eight_bits
    ∙ (ap (λ l. run low l (zeros (length (digits 8 byte)))) (digits-xor w before shifted)
    ∙ (ap (λ m. run low (sum (digits w before) (digits w m)) (zeros (length (digits 8 byte)))) is_shifted
    ∙ (ap (λ l. run low (sum (digits w before) l) (zeros (length (digits 8 byte)))) (digits-shifted k byte)
    ∙ sym (run_at_once low (digits w before) (digits 8 byte) k size_before fits)))))

-- The complement of a register of k + 8 bits is the check value of the bits so far, also after it took a byte.
pub IsCheck-byte : (k low : ℕ) (width : Width) (g taken : List Bool) (check byte shifted register n : ℕ) → bits width ≡ k + 8 → g ≡ true ∷ digits (k + 8) low → n ≡ 8 → shifted ≡ byte * 2 ^ k
    → check < 2 ^ bits width → register < 2 ^ bits width
    → digits (k + 8) register ≡ run (digits (k + 8) low) (digits (k + 8) (bit_xor (bit_not width check) shifted)) (zeros n)
    → IsCheck g taken (digits (k + 8) check)
    → IsCheck g (taken ++ digits 8 byte) (digits (k + 8) (bit_not width register))
IsCheck-byte k low width g taken check byte shifted register n is_width is_g eight is_shifted below_check below_register is_register is_check =
    let w : ℕ = k + 8 in
    let before : ℕ = bit_not width check in
    let turned_before : digits w before ≡ complement (digits w check) = digits-not width w check (omega (arith, is_width)) below_check in
    let turned_after : digits w (bit_not width register) ≡ complement (digits w register) = digits-not width w register (omega (arith, is_width)) below_register in
    let kept : complement (digits w before) ≡ digits w check = ap complement turned_before ∙ complement-complement (digits w check) in
    let Before : List Bool → Type 0 = λ p. IsCheck p taken (complement (digits w before)) in
    let After : List Bool → Type 0 = λ p. IsCheck p (taken ++ digits 8 byte) (complement (digits w register)) in
    let size : length (digits w low) ≡ w = length-digits w low in
    let moved = byte_taken k (digits w low) before byte shifted register n size eight is_shifted is_register in
    let begin : IsCheck g taken (complement (digits w before)) = subst (IsCheck g taken) (sym kept) is_check in
    let end : IsCheck g (taken ++ digits 8 byte) (complement (digits w register)) =
    subst After (sym is_g) (check-more (digits w low) taken (digits 8 byte) (digits w before) (digits w register) (omega (arith, size)) moved (subst Before is_g begin)) in
    subst (IsCheck g (taken ++ digits 8 byte)) (sym turned_after) end

-- The check value of no bit is 0.
IsCheck-start : (w : ℕ) (low g : List Bool) → length low ≡ w → g ≡ true ∷ low → digits w 0 ≡ complement (replicate w true) → IsCheck g [] (digits w 0)
IsCheck-start w low g size is_g is_zero =
    let P : List Bool → Type 0 = λ p. IsCheck p [] (digits w 0) in
    let Q : List Bool → Type 0 = λ l. IsCheck (true ∷ low) [] l in
    subst P (sym is_g) (subst Q (sym is_zero) (check-start low (replicate w true) (ap (λ k. replicate k true) (sym size))))

-- Bits have one check value.
pub IsCheck-unique : (w low : ℕ) (g taken : List Bool) (m n : ℕ) → g ≡ true ∷ digits w low → m < 2 ^ w → n < 2 ^ w → IsCheck g taken (digits w m) → IsCheck g taken (digits w n) → m ≡ n
IsCheck-unique w low g taken m n is_g below_m below_n is_m is_n =
    let M : List Bool → Type 0 = λ p. IsCheck p taken (digits w m) in
    let N : List Bool → Type 0 = λ p. IsCheck p taken (digits w n) in
    check-unique w (digits w low) taken m n below_m below_n (subst M is_g is_m) (subst N is_g is_n)

-- The polynomials by their greatest power and the numbers that the code adds.
pub crc8_low : crc8_polynomial ≡ true ∷ digits 8 29
unfolding digits
crc8_low = refl

pub crc16_low : crc16_polynomial ≡ true ∷ digits 16 4129
unfolding digits
crc16_low = refl

pub crc8_of_nothing : IsCheck crc8_polynomial [] (digits 8 0)
unfolding digits
crc8_of_nothing = IsCheck-start 8 (digits 8 29) crc8_polynomial refl crc8_low refl

pub crc16_of_nothing : IsCheck crc16_polynomial [] (digits 16 0)
unfolding digits
crc16_of_nothing = IsCheck-start 16 (digits 16 4129) crc16_polynomial refl crc16_low refl

-- bytes have one check value of sixteen bits
pub one_check : (bytes : List ℕ) (m n : ℕ) → IsCheckOf bytes m → IsCheckOf bytes n → m ≡ n
one_check bytes m n is other = IsCheck-unique 16 4129 crc16_polynomial (bits_of bytes) m n crc16_low is.narrow other.narrow is.is other.is
