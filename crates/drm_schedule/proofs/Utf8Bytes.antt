-- Each byte of a text in UTF-8 fits in 8 bits.
use Rattle.std.proofs.Common.{◌≡◌, ℕ, ◌+◌, ◌/◌, ◌<◌, Bool, true, false, cond, List, [], ◌∷◌, ◌++◌, refl, subst, inl, inr, arith, IsUtf8}
use Rattle.std.proofs.lemmas.Bool.{and_parts}
use lib.Dec.{ltb}
use borrow.Author.Tests.{ltb-true}
use lib.Utf8.{scalar, scalars, encode, encodes, next, scalar_cases}
use Rattle.drm_bits.specs.Fields.{BitField, AllFit}
use Rattle.drm_sdc.specs.Bodies.{octets}

pub fit_append : (xs ys : List BitField) → AllFit xs → AllFit ys → AllFit (xs ++ ys)
fit_append [] ys a b = b
fit_append (x ∷ xs) ys a b = (a.0, fit_append xs ys a.1 b)

octets_append : (xs ys : List ℕ) → AllFit (octets xs) → AllFit (octets ys) → AllFit (octets (xs ++ ys))
octets_append [] ys a b = b
octets_append (x ∷ xs) ys a b = (a.0, octets_append xs ys a.1 b)

by_size : (c : ℕ) (p q r : Bool) → ltb c 128 ≡ p → ltb c 2048 ≡ q → ltb c 65536 ≡ r → c < 1114112
    → AllFit (octets (cond p (c ∷ []) (cond q ((192 + c / 64) ∷ next c ∷ []) (cond r ((224 + c / 4096) ∷ next (c / 64) ∷ next c ∷ []) ((240 + c / 262144) ∷ next (c / 4096) ∷ next (c / 64) ∷ next c ∷ [])))))
by_size c true q r a b d small = let h = ltb-true c 128 a in (omega arith, tt)
by_size c false true r a b d small = let h = ltb-true c 2048 b in (omega arith, (omega arith, tt))
by_size c false false true a b d small = let h = ltb-true c 65536 d in (omega arith, (omega arith, (omega arith, tt)))
by_size c false false false a b d small = (omega arith, (omega arith, (omega arith, (omega arith, tt))))

below : (c : ℕ) → scalar c ≡ true → c < 1114112
below c e = elim (scalar_cases c e) [ inl h ↦ omega arith | inr h ↦ omega (arith, h.1) ]

one_char : (c : ℕ) → scalar c ≡ true → AllFit (octets (encode c))
unfolding encode
one_char c e = by_size c (ltb c 128) (ltb c 2048) (ltb c 65536) refl refl refl (below c e)

all_chars : (cs : List ℕ) → scalars cs ≡ true → AllFit (octets (encodes cs))
all_chars [] e = tt
all_chars (c ∷ cs) e = let p = and_parts _ _ e in octets_append (encode c) (encodes cs) (one_char c p.0) (all_chars cs p.1)

pub utf8_fits : (bytes : List ℕ) → IsUtf8 bytes → AllFit (octets bytes)
utf8_fits bytes u = let F : List ℕ → Type 0 = λ bs. AllFit (octets bs) in subst F u.1.1 (all_chars u.0 u.1.0)
