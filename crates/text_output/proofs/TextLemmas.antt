-- Texts that are written piece by piece.
use Rattle.std.proofs.Common.{◌≡◌, ℕ, ◌+◌, ◌<◌, ◌==◌, true, arith, List, [], ◌∷◌, ◌++◌, length, take, drop, get_or, Result, Err, refl, sym, ◌∙◌, ap}
use Rattle.std.specs.List.{flat_map}
use Rattle.std.proofs.lemmas.Bool.{eqb-true}
use Rattle.std.proofs.lemmas.Grind.{flat_map-append}
use Rattle.std.proofs.lemmas.List.{append-nil, take-append-drop, drop_more}
use Rattle.hex.specs.Hex.{encode_with, encode_lower}
use Rattle.drm_links.specs.Known.{Known}
use Rattle.drm_links.specs.Sink.{Output, OutputsText, WritesWhole}
use Rattle.drm_links.proofs.KnownLemmas.{OutputsText-weaker}
use Rattle.drm_links.proofs.WritingLemmas.{Writes-broken}

-- the piece at a place, and those before and after it
pub flat_map-split : {X : Type 0} (f : X → List ℕ) (xs : List X) (i : ℕ) (d : X) → i < length xs → flat_map f xs ≡ flat_map f (take i xs) ++ (f (get_or xs i d) ++ flat_map f (drop (i + 1) xs))
flat_map-split f xs i d within =
    ap (λ l. flat_map f l) (sym (take-append-drop i xs) ∙ ap (λ l. take i xs ++ l) (drop_more xs i d within))
    ∙ flat_map-append f (take i xs) (get_or xs i d ∷ drop (i + 1) xs)

-- all before a piece, and a front of it
pub next_broken : {X E F : Type 0} (f : X → List ℕ) (xs : List X) (i : ℕ) (d : X) → i < length xs → (a b c : Known Output) (r : Result (Unit {0}) E) (other : E) (fault : F)
    → OutputsText a b (λ t. t ≡ flat_map f (take i xs)) → b.faults ≡ a.faults → r ≡ Err other → WritesWhole r b c (f (get_or xs i d))
    → (let broken : Result (Unit {0}) F = Err fault in WritesWhole broken a c (flat_map f xs))
next_broken f xs i d within a b c r other fault done same is writes =
    let more : List ℕ = flat_map f (drop (i + 1) xs) in
    let first : List ℕ = f (get_or xs i d) in
    Writes-broken (flat_map f xs) first more a b c r other fault
    (OutputsText-weaker (λ t. t ≡ flat_map f (take i xs)) (λ t. t ++ (first ++ more) ≡ flat_map f xs) a b done
    (λ t all. ap (λ l. l ++ (first ++ more)) all ∙ sym (flat_map-split f xs i d within)))
    same is writes

-- hex text is that of each byte
pub encode_lower-is : (bytes : List ℕ) → encode_lower bytes ≡ flat_map (λ b. encode_lower (b ∷ [])) bytes
unfolding encode_with
encode_lower-is [] = refl
encode_lower-is (b ∷ bytes) = ap (λ l. encode_lower (b ∷ []) ++ l) (encode_lower-is bytes)

pub encode_lower-append : (bytes more : List ℕ) → encode_lower (bytes ++ more) ≡ encode_lower bytes ++ encode_lower more
unfolding encode_with
encode_lower-append [] more = refl
encode_lower-append (b ∷ bytes) more = ap (λ l. encode_lower (b ∷ []) ++ l) (encode_lower-append bytes more)

-- and those of two parts are those of the whole
pub digits_parts : (part behind whole : List ℕ) → part ++ behind ≡ whole → encode_lower whole ≡ encode_lower part ++ encode_lower behind
digits_parts part behind whole parts = ap encode_lower (sym parts) ∙ encode_lower-append part behind

-- where nothing is left all digits were written
pub digits_all : (whole rest : List ℕ) (a b : Known Output) → (length rest == 0) ≡ true → OutputsText a b (λ text. text ++ encode_lower rest ≡ whole) → OutputsText a b (λ text. text ≡ whole)
unfolding encode_with
digits_all whole [] a b none done = OutputsText-weaker (λ text. text ++ [] ≡ whole) (λ text. text ≡ whole) a b done (λ text is. sym (append-nil text) ∙ is)
digits_all whole (x ∷ rest) a b none done = let no : length (x ∷ rest) ≡ 0 = eqb-true (length (x ∷ rest)) 0 none in absurd (omega (arith, no))
