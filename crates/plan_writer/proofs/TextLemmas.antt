-- The text of lines, one after another.
use Rattle.std.proofs.Common.{◌≡◌, ℕ, ◌+◌, ◌≤◌, ◌<◌, List, [], ◌∷◌, ◌++◌, length, map, drop, get_or, refl, sym, ap, ◌∙◌, append_assoc, add-one, drop-cons, arith}
use Rattle.std.specs.List.{flat_map}
use Rattle.std.proofs.lemmas.List.{nil_from_length, length-drop}
use Rattle.std.proofs.lemmas.List.Concat.{flat_map-cons}
use Rattle.std.proofs.lemmas.List.Folds.{flat_map-map}
use Rattle.std.proofs.lemmas.Grind.{flat_map-append}
use Rattle.plan_grammar.specs.declared.line.Line.{Line}
use Rattle.plan_grammar.specs.Said.{line_text}
use Rattle.plan_writer.specs.Canonical.{text_of}

-- what a list is written as, one element after another
abbrev pub WritesEach : {X : Type 0} → (List X → List ℕ) → (X → List ℕ) → Type 0
WritesEach {X} whole one = (x : X) (rest : List X) → whole (x ∷ rest) ≡ one x ++ whole rest

-- one element more is written
pub one_written : {X : Type 0} (whole : List X → List ℕ) (one : X → List ℕ) → WritesEach whole one → (out new : List ℕ) (i : ℕ) (xs : List X) (x d : X) (all : List ℕ) → i < length xs → x ≡ get_or xs i d
    → out ++ whole (drop i xs) ≡ all → new ≡ out ++ one x → new ++ whole (drop (i + 1) xs) ≡ all
one_written {X = X} whole one each out new i xs x d all lt is so_far written =
    let first : drop i xs ≡ get_or xs i d ∷ drop (i + 1) xs = rw (add-one, drop-cons xs i d) refl in
    let here : drop i xs ≡ x ∷ drop (i + 1) xs = first ∙ ap (λ (y : X). y ∷ drop (i + 1) xs) (sym is) in
    ap (λ t. t ++ whole (drop (i + 1) xs)) written
    ∙ append_assoc out (one x) (whole (drop (i + 1) xs))
    ∙ ap (λ t. out ++ t) (sym (each x (drop (i + 1) xs)) ∙ ap whole (sym here))
    ∙ so_far

append_nil : (xs : List ℕ) → xs ++ [] ≡ xs
append_nil [] = refl
append_nil (x ∷ xs) = ap (λ l. x ∷ l) (append_nil xs)

-- all elements are written
pub all_written : {X : Type 0} (whole : List X → List ℕ) → whole [] ≡ [] → (out : List ℕ) (i : ℕ) (xs : List X) (all : List ℕ) → length xs ≤ i → out ++ whole (drop i xs) ≡ all → out ≡ all
all_written whole none out i xs all le so_far =
    let end : drop i xs ≡ [] = nil_from_length (drop i xs) (omega (arith, length-drop i xs)) in
    sym (append_nil out) ∙ ap (λ t. out ++ t) (sym none ∙ ap whole (sym end)) ∙ so_far

pub text_append : (a b : List Line) → text_of (a ++ b) ≡ text_of a ++ text_of b
unfolding text_of
text_append a b = flat_map-append line_text a b

pub no_text : text_of [] ≡ []
unfolding text_of
no_text = refl

-- the lines of elements, one of each or some
pub text_mapped : {X : Type 0} (f : X → Line) (xs : List X) → flat_map (λ x. line_text (f x)) xs ≡ text_of (map f xs)
unfolding text_of
text_mapped f xs = sym (flat_map-map line_text f xs)

pub text_joined : {X : Type 0} (f : X → List Line) (xs : List X) → flat_map (λ x. text_of (f x)) xs ≡ text_of (flat_map f xs)
unfolding text_of
text_joined f [] = refl
text_joined f (x ∷ xs) = rw (flat_map-cons (λ x. text_of (f x)) x xs, flat_map-cons f x xs, text_joined f xs) (sym (flat_map-append line_text (f x) (flat_map f xs)))

pub text_cons : (l : Line) (ls : List Line) → text_of (l ∷ ls) ≡ line_text l ++ text_of ls
unfolding text_of
text_cons l ls = flat_map-cons line_text l ls

-- parts that are written one after another
pub both_written : (a b : List Line) (out o1 o2 : List ℕ) → o1 ≡ out ++ text_of a → o2 ≡ o1 ++ text_of b → o2 ≡ out ++ text_of (a ++ b)
both_written a b out o1 o2 w1 w2 = w2 ∙ ap (λ t. t ++ text_of b) w1 ∙ append_assoc out (text_of a) (text_of b) ∙ ap (λ t. out ++ t) (sym (text_append a b))

pub five_written : (a b c d e : List Line) (out o1 o2 o3 o4 o5 : List ℕ) → o1 ≡ out ++ text_of a → o2 ≡ o1 ++ text_of b → o3 ≡ o2 ++ text_of c → o4 ≡ o3 ++ text_of d → o5 ≡ o4 ++ text_of e
    → o5 ≡ out ++ text_of (a ++ (b ++ (c ++ (d ++ e))))
five_written a b c d e out o1 o2 o3 o4 o5 w1 w2 w3 w4 w5 =
    both_written a (b ++ (c ++ (d ++ e))) out o1 o5 w1 (both_written b (c ++ (d ++ e)) o1 o2 o5 w2 (both_written c (d ++ e) o2 o3 o5 w3 (both_written d e o3 o4 o5 w4 w5)))
