-- What was got after a prefix of a delivery, and when a number is closed.
use Rattle.std.proofs.Common.{ℕ, ◌≡◌, ◌+◌, ◌≤◌, Bool, true, false, cond, ◌&&◌, ◌||◌, leb, eqb, List, [], ◌∷◌, ◌++◌, Option, Some, None, ◌⊎◌, inl, inr, refl, sym, ap, ◌∙◌, arith}
use Rattle.std.specs.Prelude.{ℤ, pos, negsuc, max}
use Rattle.std.specs.List.{list_any}
use Rattle.std.proofs.lemmas.Bool.{and_parts, lt-leb, eqb-true}
use Rattle.std.proofs.lemmas.Bool.Decides.{nat_tests}
use Rattle.dcp_collect.specs.CollectorState.{reached}
use Rattle.law_collect.specs.Delivery.{number, is_number, is_at_least, got, newer_number, newest_of}

-- the pair is (q + base, i)
abbrev pub is_pair : ℤ → ℕ × ℕ → ℕ → ℕ → Bool
is_pair first_packet pair q i = is_number (number first_packet pair) q && eqb pair.1 i

-- a number among the pairs is at least q + window
abbrev pub closed : ℕ → ℤ → List (ℕ × ℕ) → ℕ → Bool
closed window first_packet pairs q = list_any (λ pair. is_at_least (number first_packet pair) (q + window)) pairs

got_more_cond : (c m x y : Bool) → (x ≡ true → y ≡ true) → cond c false (m || x) ≡ true → cond c false (m || y) ≡ true
got_more_cond true m x y f h = h
got_more_cond false true x y f h = refl
got_more_cond false false x y f h = f h

-- what was got stays got
pub got_more : (window : ℕ) (first_packet : ℤ) (pairs more : List (ℕ × ℕ)) (q i : ℕ)
    → got window first_packet pairs q i ≡ true → got window first_packet (pairs ++ more) q i ≡ true
got_more window first_packet [] more q i h = let e : false ≡ true = h in cc
got_more window first_packet (pair ∷ pairs) more q i h =
    got_more_cond (is_at_least (number first_packet pair) (q + window)) (is_pair first_packet pair q i) (got window first_packet pairs q i) (got window first_packet (pairs ++ more) q i)
    (got_more window first_packet pairs more q i) h

got_closed_cond : (c m x y d : Bool) → (d ≡ true → y ≡ x) → (c || d) ≡ true → cond c false (m || y) ≡ cond c false (m || x)
got_closed_cond true m x y d f h = refl
got_closed_cond false m x y d f h = ap (λ z. m || z) (f h)

-- once it is closed nothing more is got
pub got_closed : (window : ℕ) (first_packet : ℤ) (pairs more : List (ℕ × ℕ)) (q i : ℕ)
    → closed window first_packet pairs q ≡ true → got window first_packet (pairs ++ more) q i ≡ got window first_packet pairs q i
got_closed window first_packet [] more q i h = let e : false ≡ true = h in cc
got_closed window first_packet (pair ∷ pairs) more q i h =
    got_closed_cond (is_at_least (number first_packet pair) (q + window)) (is_pair first_packet pair q i) (got window first_packet pairs q i) (got window first_packet (pairs ++ more) q i)
    (closed window first_packet pairs q) (got_closed window first_packet pairs more q i) h

got_last_cond : (c m x y d z : Bool) → (y ≡ true → (x ≡ true) ⊎ ((d ≡ false) × (z ≡ true)))
    → cond c false (m || y) ≡ true → (cond c false (m || x) ≡ true) ⊎ (((c || d) ≡ false) × (z ≡ true))
got_last_cond true m x y d z f h = inl h
got_last_cond false true x y d z f h = inl refl
got_last_cond false false x y d z f h = f h

last_only : (c m : Bool) → cond c false (m || false) ≡ true → (false ≡ true) ⊎ ((false ≡ false) × (m ≡ true))
last_only true m h = inl h
last_only false true h = inr (refl, refl)
last_only false false h = inl h

-- what is got with one pair more was got before, or it is this pair, and not too late
pub got_last : (window : ℕ) (first_packet : ℤ) (pairs : List (ℕ × ℕ)) (pair : ℕ × ℕ) (q i : ℕ)
    → got window first_packet (pairs ++ pair ∷ []) q i ≡ true
    → (got window first_packet pairs q i ≡ true) ⊎ ((closed window first_packet pairs q ≡ false) × (is_pair first_packet pair q i ≡ true))
got_last window first_packet [] pair q i h = last_only (is_at_least (number first_packet pair) (q + window)) (is_pair first_packet pair q i) h
got_last window first_packet (p ∷ pairs) pair q i h =
    got_last_cond (is_at_least (number first_packet p) (q + window)) (is_pair first_packet p q i) (got window first_packet pairs q i) (got window first_packet (pairs ++ pair ∷ []) q i)
    (closed window first_packet pairs q) (is_pair first_packet pair q i) (got_last window first_packet pairs pair q i) h

got_now_cond : (c m y d : Bool) → (d ≡ false → y ≡ true) → (c || d) ≡ false → cond c false (m || y) ≡ true
got_now_cond true m y d f h = let e : true ≡ false = h in cc
got_now_cond false true y d f h = refl
got_now_cond false false y d f h = f h

not_ahead : (n : ℤ) (q window : ℕ) → 1 ≤ window → is_number n q ≡ true → is_at_least n (q + window) ≡ false
not_ahead (pos n) q window w h = lt-leb (q + window) n (omega (arith, eqb-true n q h))
not_ahead (negsuc n) q window w h = refl

now_cond : (c m : Bool) → c ≡ false → m ≡ true → cond c false (m || false) ≡ true
now_cond true m e f = let g : true ≡ false = e in cc
now_cond false true e f = refl
now_cond false false e f = f

-- a pair is got where its number isn't closed before it
pub got_now : (window : ℕ) (first_packet : ℤ) (pairs : List (ℕ × ℕ)) (pair : ℕ × ℕ) (q i : ℕ)
    → 1 ≤ window → closed window first_packet pairs q ≡ false → is_pair first_packet pair q i ≡ true
    → got window first_packet (pairs ++ pair ∷ []) q i ≡ true
got_now window first_packet [] pair q i w open' is =
    let p = and_parts (is_number (number first_packet pair) q) (eqb pair.1 i) is in
    now_cond (is_at_least (number first_packet pair) (q + window)) (is_pair first_packet pair q i) (not_ahead (number first_packet pair) q window w p.0) is
got_now window first_packet (p ∷ pairs) pair q i w open' is =
    got_now_cond (is_at_least (number first_packet p) (q + window)) (is_pair first_packet p q i) (got window first_packet (pairs ++ pair ∷ []) q i) (closed window first_packet pairs q)
    (λ o. got_now window first_packet pairs pair q i w o is) open'

max_leb : (k m n : ℕ) → leb k (max m n) ≡ (leb k m || leb k n)
max_leb k m n = grind (arith, nat_tests)

or_false : (b : Bool) → (b || false) ≡ b
or_false true = refl
or_false false = refl

reached_newer : (m : Option ℕ) (n : ℤ) (k : ℕ) → reached (newer_number m n) k ≡ (reached m k || is_at_least n k)
reached_newer None (pos n) k = refl
reached_newer None (negsuc n) k = refl
reached_newer (Some m) (pos n) k = max_leb k m n
reached_newer (Some m) (negsuc n) k = sym (or_false (leb k m))

or_assoc : (x y z : Bool) → ((x || y) || z) ≡ (x || (y || z))
or_assoc true y z = refl
or_assoc false y z = refl

-- the newest number is at least k where one of the pairs' numbers is
pub reached_is : (first_packet : ℤ) (m : Option ℕ) (pairs : List (ℕ × ℕ)) (k : ℕ)
    → reached (newest_of first_packet m pairs) k ≡ (reached m k || list_any (λ pair. is_at_least (number first_packet pair) k) pairs)
reached_is first_packet m [] k = sym (or_false (reached m k))
reached_is first_packet m (pair ∷ pairs) k =
    reached_is first_packet (newer_number m (number first_packet pair)) pairs k
    ∙ ap (λ x. x || list_any (λ p. is_at_least (number first_packet p) k) pairs) (reached_newer m (number first_packet pair) k)
    ∙ or_assoc (reached m k) (is_at_least (number first_packet pair) k) (list_any (λ p. is_at_least (number first_packet p) k) pairs)

pub closed_is : (window : ℕ) (first_packet : ℤ) (pairs : List (ℕ × ℕ)) (q : ℕ) → reached (newest_of first_packet None pairs) (q + window) ≡ closed window first_packet pairs q
closed_is window first_packet pairs q = reached_is first_packet None pairs (q + window)

pub newest_last : (first_packet : ℤ) (m : Option ℕ) (pairs : List (ℕ × ℕ)) (pair : ℕ × ℕ)
    → newest_of first_packet m (pairs ++ pair ∷ []) ≡ newer_number (newest_of first_packet m pairs) (number first_packet pair)
newest_last first_packet m [] pair = refl
newest_last first_packet m (p ∷ pairs) pair = newest_last first_packet (newer_number m (number first_packet p)) pairs pair
