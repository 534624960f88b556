-- The last part of a text that is cut at line feeds.
use Rattle.std.specs.Borrow.{Bor}
use Rattle.std.proofs.lemmas.Bool.{eqb-true}
use Rattle.std.proofs.Common.{take, ◌-◌, Bool, true, false, eqb, arith, ◌≡◌, ℕ, List, [], ◌∷◌, ◌++◌, length, map, refl, ap, sym, ◌∙◌}
use Rattle.std.proofs.lemmas.List.{map_push, nil_from_length}
use Rattle.text_lines.specs.Lines.{without_last_empty}

pub drops_last : (front : List (List ℕ)) → without_last_empty (front ++ [] ∷ []) ≡ front
drops_last [] = refl
drops_last (x ∷ []) = refl
drops_last (x ∷ y ∷ more) = ap (λ (ls : List (List ℕ)). x ∷ ls) (drops_last (y ∷ more))

pub keeps_last : (front : List (List ℕ)) (b : ℕ) (bs : List ℕ) → without_last_empty (front ++ (b ∷ bs) ∷ []) ≡ front ++ (b ∷ bs) ∷ []
keeps_last [] b bs = refl
keeps_last (x ∷ []) b bs = refl
keeps_last (x ∷ y ∷ more) b bs = ap (λ (ls : List (List ℕ)). x ∷ ls) (keeps_last (y ∷ more) b bs)

-- the lines from the parts: the last part, looked at
pub without_last : (whole front : List (Bor (List ℕ))) (last : Bor (List ℕ)) (parts : List (List ℕ)) (b : Bool) → whole ≡ front ++ last ∷ [] → map (λ p. p.now) whole ≡ parts
    → b ≡ eqb (length last.now) 0 → b ≡ true → map (λ p. p.now) front ≡ without_last_empty parts
without_last whole front last parts b e is test holds =
    let none : length last.now ≡ 0 = eqb-true _ _ (cc) in
    let shown : parts ≡ map (λ (p : Bor (List ℕ)). p.now) front ++ [] ∷ [] = sym is ∙ rw e (map_push (λ (p : Bor (List ℕ)). p.now) front last) ∙ ap (λ (l : List ℕ). map (λ (p : Bor (List ℕ)). p.now) front ++ l ∷ []) (nil_from_length last.now none) in
    rw shown (sym (drops_last (map (λ (p : Bor (List ℕ)). p.now) front)))

keeps : (front : List (List ℕ)) (last : List ℕ) (b : Bool) → b ≡ eqb (length last) 0 → b ≡ false → without_last_empty (front ++ last ∷ []) ≡ front ++ last ∷ []
keeps front [] b test fails = absurd cc
keeps front (c ∷ cs) b test fails = keeps_last front c cs

pub with_last : (whole front : List (Bor (List ℕ))) (last : Bor (List ℕ)) (parts : List (List ℕ)) (b : Bool) → whole ≡ front ++ last ∷ [] → map (λ p. p.now) whole ≡ parts
    → b ≡ eqb (length last.now) 0 → b ≡ false → map (λ p. p.now) (front ++ last ∷ []) ≡ without_last_empty parts
with_last whole front last parts b e is test fails =
    let shown : parts ≡ map (λ (p : Bor (List ℕ)). p.now) front ++ last.now ∷ [] = sym is ∙ rw e (map_push (λ (p : Bor (List ℕ)). p.now) front last) in
    map_push (λ (p : Bor (List ℕ)). p.now) front last ∙ rw shown (sym (keeps (map (λ (p : Bor (List ℕ)). p.now) front) last.now b test fails))

pub no_last : (whole front : List (Bor (List ℕ))) (parts : List (List ℕ)) (n : ℕ) → whole ≡ front ++ [] → front ≡ take (n - 1) whole → n ≡ 0 → map (λ p. p.now) whole ≡ parts → map (λ p. p.now) front ≡ without_last_empty parts
no_last whole [] parts n e rest none is = rw (← is, e) refl
no_last whole (f ∷ front) parts n e rest none is =
    let k : n - 1 ≡ 0 = omega arith in
    absurd (cc (rw k at rest))
