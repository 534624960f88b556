-- Texts in which a byte doesn't stand.
use Rattle.std.proofs.Common.{◌≡◌, ◌≢◌, ℕ, ◌<◌, ◌^◌, zero, suc, not, eqb, Bool, true, false, List, [], ◌∷◌, ◌++◌, length, get_or, refl, arith}
use Rattle.std.specs.Prelude.{◌&&◌, ◌/◌, ◌%◌, All, decimal, slice_index}
use Rattle.std.specs.Int.{IsInRange}
use Rattle.std.proofs.lemmas.Bool.{ne_eqb}
use Rattle.std.proofs.lemmas.Fmt.{digits_decimal}
use Rattle.std.proofs.lemmas.List.Elements.{All-cons, All-nil}
use Rattle.std.proofs.lemmas.Str.Parse.{not_in_digits}
use Rattle.hex.specs.Hex.{encode_with}
use Rattle.text_lines.proofs.NumberLemmas.{own}

-- the byte stands nowhere in the text
abbrev pub lacks : ℕ → List ℕ → Bool
lacks c [] = true
lacks c (b ∷ bs) = not (eqb b c) && lacks c bs

-- the first byte is another, and the rest lacks it
pub record Split (c b : ℕ) (bs : List ℕ) : Type 0 where
  pub head : eqb b c ≡ false
  pub tail : lacks c bs ≡ true

pub split : (c b : ℕ) (bs : List ℕ) → lacks c (b ∷ bs) ≡ true → Split c b bs
split c b bs e = by (eqb b c) refl e
  where
    by : (x : Bool) → x ≡ eqb b c → (not x && lacks c bs) ≡ true → Split c b bs
    by true is e = absurd cc
    by false is e = record { head = cc; tail = e }

pub all_other : (c : ℕ) (bs : List ℕ) → lacks c bs ≡ true → All (λ b. eqb b c ≡ false) bs
all_other c [] e = All-nil (λ b. eqb b c ≡ false)
all_other c (b ∷ bs) e = let parts = split c b bs e in All-cons (λ b. eqb b c ≡ false) b bs parts.head (all_other c bs parts.tail)

lacks_all : (c : ℕ) (bs : List ℕ) → ((i : ℕ) → i < length bs → get_or bs i 0 ≢ c) → lacks c bs ≡ true
lacks_all c [] other = refl
lacks_all c (b ∷ bs) other = rw (ne_eqb b c (other 0 (omega arith)), lacks_all c bs (λ i lt. other (suc i) (omega arith))) refl

pub lacks_both : (c : ℕ) (xs ys : List ℕ) → lacks c xs ≡ true → lacks c ys ≡ true → lacks c (xs ++ ys) ≡ true
lacks_both c [] ys e f = f
lacks_both c (x ∷ xs) ys e f = let parts = split c x xs e in rw (parts.head, lacks_both c xs ys parts.tail f) refl

-- decimal digits are no other byte
pub decimal_lacks : (c n : ℕ) → n < 2 ^ 64 → (IsInRange 48 57 c → ⊥) → lacks c (decimal n) ≡ true
decimal_lacks c n small other = lacks_all c (decimal n) (not_in_digits own (decimal n) c (digits_decimal own n small) other)

index_lacks : (c : ℕ) (t : List ℕ) (k : ℕ) → eqb 0 c ≡ false → lacks c t ≡ true → eqb (slice_index t k) c ≡ false
index_lacks c [] k none e = none
index_lacks c (b ∷ bs) zero none e = (split c b bs e).head
index_lacks c (b ∷ bs) (suc k) none e = index_lacks c bs k none (split c b bs e).tail

-- the digits of a table are no byte that it lacks
pub hex_lacks : (c : ℕ) (t bs : List ℕ) → eqb 0 c ≡ false → lacks c t ≡ true → lacks c (encode_with t bs) ≡ true
unfolding encode_with
hex_lacks c t [] none e = refl
hex_lacks c t (b ∷ bs) none e = rw (index_lacks c t (b / 16) none e, index_lacks c t (b % 16) none e, hex_lacks c t bs none e) refl
