-- Bits of byte lists that are set one by one, and numbers that are written so.
use Rattle.std.proofs.Common.{◌≡◌, ◌≢◌, ℕ, zero, suc, ◌+◌, ◌-◌, ◌*◌, ◌/◌, ◌%◌, ◌^◌, ◌<◌, nat_eq, bit_and, Bool, List, [], ◌∷◌, ◌++◌, length, get_or, take, drop, refl, sym, ◌∙◌, ap, arith, append_assoc, inl, inr}
use Rattle.std.proofs.Math.ListN.{set}
use Rattle.std.proofs.Math.Nat.{div-eq_of_lt, mod-eq_of_lt, div-eq-sub-div, mod-eq-sub-mod, div-div-eq-div-mul}
use Rattle.std.proofs.lemmas.Bool.{cases_lt}
use Rattle.std.proofs.lemmas.List.{append-nil, set-append_left, set-append_right, take_more_set, drop-set-lt, drop-drop}
use Rattle.std.proofs.lemmas.Nat.{pow-add}
use Rattle.std.proofs.lemmas.Nat.Bits.{shr_and_one}
use Rattle.std.specs.Int.{bit_at}
use Rattle.drm_bits.specs.Bits.{digits, bits_of}
use Rattle.drm_bits.proofs.BitsLemmas.{length-digits}
use Rattle.drm_bits.proofs.DigitsLemmas.{digits-push}

-- numbers whose low bits agree have the same digits
digits-same : (w m n : ℕ) → ((i : ℕ) → i < w → bit_at m i ≡ bit_at n i) → digits w m ≡ digits w n
unfolding digits
digits-same zero m n same = refl
digits-same (suc w) m n same =
    ap (λ k. nat_eq k 1 ∷ digits w m) (same w (omega arith)) ∙ ap (λ l. nat_eq (bit_at n w) 1 ∷ l) (digits-same w m n (λ i below. same i (omega arith)))

-- numbers whose low bits agree but for one
pub digits-set : (w m n k : ℕ) (b : Bool) → k < w → nat_eq (bit_at m (w - 1 - k)) 1 ≡ b → ((i : ℕ) → i < w → i ≢ w - 1 - k → bit_at m i ≡ bit_at n i) → digits w m ≡ set (digits w n) k b
unfolding digits
digits-set zero m n k b within is others = absurd (omega arith)
digits-set (suc w) m n zero b within is others =
    let top : suc w - 1 - zero ≡ w = omega arith in
    let first : nat_eq (bit_at m w) 1 ≡ b = ap (λ i. nat_eq (bit_at m i) 1) (sym top) ∙ is in
    ap (λ c. c ∷ digits w m) first ∙ ap (λ l. b ∷ l) (digits-same w m n (λ i below. others i (omega arith) (λ e. absurd (omega arith))))
digits-set (suc w) m n (suc k) b within is others =
    let place : suc w - 1 - suc k ≡ w - 1 - k = omega arith in
    let first : bit_at m w ≡ bit_at n w = others w (omega arith) (λ e. absurd (omega arith)) in
    let here : nat_eq (bit_at m (w - 1 - k)) 1 ≡ b = ap (λ i. nat_eq (bit_at m i) 1) (sym place) ∙ is in
    let rest = digits-set w m n k b (omega arith) here (λ i below other. others i (omega arith) (λ e. other (e ∙ place))) in
    ap (λ c. nat_eq c 1 ∷ digits w m) first ∙ ap (λ l. nat_eq (bit_at n w) 1 ∷ l) rest

-- one bit of a byte list is set
pub bits_of-set : (bytes : List ℕ) (at m : ℕ) (b : Bool) → at < 8 * length bytes → digits 8 m ≡ set (digits 8 (get_or bytes (at / 8) 0)) (at % 8) b → bits_of (set bytes (at / 8) m) ≡ set (bits_of bytes) at b
bits_of-set [] at m b within is = absurd (omega arith)
bits_of-set (x ∷ bytes) at m b within is =
    elim (cases_lt at 8) [
      | inl lt ↦
          let div : at / 8 ≡ 0 = div-eq_of_lt lt in
          let remainder : at % 8 ≡ at = mod-eq_of_lt lt in
          let first : digits 8 m ≡ set (digits 8 x) at b = rw (div, remainder) at is in
          rw div (ap (λ l. l ++ bits_of bytes) first ∙ sym (set-append_left (digits 8 x) (bits_of bytes) at b (omega (arith, length-digits 8 x, lt))))
      | inr ge ↦
          let div : at / 8 ≡ suc ((at - 8) / 8) = div-eq-sub-div (omega arith) ge ∙ omega arith in
          let remainder : at % 8 ≡ (at - 8) % 8 = mod-eq-sub-mod ge in
          let below : digits 8 m ≡ set (digits 8 (get_or bytes ((at - 8) / 8) 0)) ((at - 8) % 8) b = rw (div, remainder) at is in
          let rest = bits_of-set bytes (at - 8) m b (omega arith) below in
          rw div (ap (λ l. digits 8 x ++ l) rest ∙ sym (set-append_right (digits 8 x) (bits_of bytes) 8 at b (length-digits 8 x) ge))
    ]

-- a number's digits from a place on, and one more
digits-from : (done n place : ℕ) → digits (suc done) (n / 2 ^ place) ≡ digits done (n / 2 ^ (place + 1)) ++ nat_eq (bit_and (n / 2 ^ place) 1) 1 ∷ []
digits-from done n place =
    let next : n / 2 ^ place / 2 ≡ n / 2 ^ (place + 1) = div-div-eq-div-mul n (2 ^ place) 2 ∙ ap (λ k. n / k) (sym (pow-add 2 place 1)) in
    let bit : n / 2 ^ place % 2 ≡ bit_and (n / 2 ^ place) 1 = sym (shr_and_one n place) in
    digits-push done (n / 2 ^ place) ∙ (ap (λ k. digits done k ++ nat_eq (n / 2 ^ place % 2) 1 ∷ []) next ∙ ap (λ k. digits done (n / 2 ^ (place + 1)) ++ nat_eq k 1 ∷ []) bit)

-- no bit is written at first
pub digits-none : (front : List Bool) (w n : ℕ) → front ≡ front ++ digits (w - w) n
unfolding digits
digits-none front w n =
    let none : w - w ≡ 0 = omega arith in
    rw none (sym (append-nil front))

-- One bit more is written: all digits of n but the last `left` were, and now one fewer is left.
pub put-step : (bits new front : List Bool) (at done more n left fewer : ℕ) → at < length bits → left ≡ fewer + 1 → more ≡ suc done
    → new ≡ set bits at (nat_eq (bit_and (n / 2 ^ fewer) 1) 1)
    → take at bits ≡ front ++ digits done (n / 2 ^ left)
    → take (at + 1) new ≡ front ++ digits more (n / 2 ^ fewer)
put-step bits new front at done more n left fewer within is_left is_more is_new is =
    let bit : Bool = nat_eq (bit_and (n / 2 ^ fewer) 1) 1 in
    let before : take at bits ≡ front ++ digits done (n / 2 ^ (fewer + 1)) = is ∙ ap (λ k. front ++ digits done (n / 2 ^ k)) is_left in
    ap (take (at + 1)) is_new
    ∙ (take_more_set bits at bit within
    ∙ (ap (λ l. l ++ bit ∷ []) before
    ∙ (append_assoc front (digits done (n / 2 ^ (fewer + 1))) (bit ∷ [])
    ∙ (ap (λ l. front ++ l) (sym (digits-from done n fewer)) ∙ ap (λ k. front ++ digits k (n / 2 ^ fewer)) (sym is_more)))))

-- and the bits behind it stay
pub rest-step : (bits new rest : List Bool) (bit : Bool) (at done more : ℕ) → more ≡ suc done → new ≡ set bits at bit → drop at bits ≡ drop done rest → drop (at + 1) new ≡ drop more rest
rest-step bits new rest bit at done more is_more is_new is =
    let one_more : done + 1 ≡ more = omega arith in
    ap (drop (at + 1)) is_new
    ∙ (drop-set-lt (at + 1) bits at bit (omega arith)
    ∙ (sym (drop-drop 1 at bits) ∙ (ap (drop 1) is ∙ (drop-drop 1 done rest ∙ ap (λ k. drop k rest) one_more))))
