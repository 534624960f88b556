-- Bytes in two parts are compared part by part.
use Rattle.std.proofs.Common.{◌≡◌, ℕ, Bool, true, false, List, [], ◌∷◌, ◌++◌, ◌&&◌, length, nat_eq, refl, sym, ap, ◌∙◌, arith}
use Rattle.std.specs.Prelude.{bytes_eq}

and_assoc : (a b c : Bool) → ((a && b) && c) ≡ (a && (b && c))
and_assoc true b c = refl
and_assoc false b c = refl

-- the first parts have one length
parts_eq : (xs ys us vs : List ℕ) → length xs ≡ length ys → bytes_eq (xs ++ us) (ys ++ vs) ≡ (bytes_eq xs ys && bytes_eq us vs)
parts_eq [] [] us vs long = refl
parts_eq [] (y ∷ ys) us vs long = absurd (omega (arith, long))
parts_eq (x ∷ xs) [] us vs long = absurd (omega (arith, long))
parts_eq (x ∷ xs) (y ∷ ys) us vs long =
    ap (λ b. nat_eq x y && b) (parts_eq xs ys us vs (omega (arith, long))) ∙ sym (and_assoc (nat_eq x y) (bytes_eq xs ys) (bytes_eq us vs))

pub same_first : (a b xs ys us vs : List ℕ) (r same : Bool) → a ≡ xs ++ us → b ≡ ys ++ vs → length xs ≡ length ys
    → same ≡ true → same ≡ bytes_eq xs ys → r ≡ bytes_eq us vs → r ≡ bytes_eq a b
same_first a b xs ys us vs r same is other long so one rest =
    rest ∙ sym (ap (λ x. bytes_eq x b) is ∙ ap (λ y. bytes_eq (xs ++ us) y) other ∙ parts_eq xs ys us vs long ∙ ap (λ e. e && bytes_eq us vs) (sym one ∙ so))

pub other_first : (a b xs ys us vs : List ℕ) (same : Bool) → a ≡ xs ++ us → b ≡ ys ++ vs → length xs ≡ length ys
    → same ≡ false → same ≡ bytes_eq xs ys → same ≡ bytes_eq a b
other_first a b xs ys us vs same is other long not_so one =
    not_so ∙ sym (ap (λ x. bytes_eq x b) is ∙ ap (λ y. bytes_eq (xs ++ us) y) other ∙ parts_eq xs ys us vs long ∙ ap (λ e. e && bytes_eq us vs) (sym one ∙ not_so))
