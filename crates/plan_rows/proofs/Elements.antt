-- The elements of a list of frequencies.
use Rattle.std.proofs.Common.{◌≡◌, ℕ, ◌≤◌, Bool, true, false, List, [], ◌∷◌, length, map, Result, Ok, Err, refl, sym, ap, ◌∙◌, arith}
use Rattle.std.specs.Prelude.{◌≢◌, nat_le, MatchResult}
use Rattle.std.specs.List.{list_all}
use Rattle.std.specs.Borrow.{Bor}
use Rattle.drm_sdc.specs.declared.channels.Channel15.{Channel15}
use Rattle.text_lines.specs.Numbers.{is_number}
use Rattle.plan_rows.specs.Words.{value}
use Rattle.plan_rows.specs.Gives.{OnBroken}
use Rattle.plan_rows.specs.Frequencies.{digits, channel, elements, are_spelled, are_in_range}
use Rattle.std.proofs.lemmas.Bool.{ne_eqb, le-leb}
use Rattle.std.proofs.lemmas.List.{length-map}
use Rattle.std.proofs.lemmas.List.Folds.{list_all-map}
use Rattle.plan_rows.specs.declared.fault.Wrong.TheVariants.{Range}
use Rattle.plan_rows.specs.declared.fault.RowFault.{RowFault}
use Rattle.plan_rows.specs.declared.fault.RowFault.TheVariants.{NoMemory, Broken}

-- an element that begins with no plus is its digits
pub no_plus : (bs : List ℕ) → ((rest : List ℕ) → bs ≢ 43 ∷ rest) → bs ≡ digits bs
no_plus [] none = refl
no_plus (b ∷ bs) none =
    let other : b ≢ 43 = λ e. none bs (ap (λ (x : ℕ). x ∷ bs) e) in
    rw (ne_eqb b 43 other) refl

abbrev pub texts : List (Bor (List ℕ)) → List (List ℕ)
texts xs = map (λ (x : Bor (List ℕ)). x.now) xs

pub spelled_texts : (xs : List (Bor (List ℕ))) → list_all (λ (x : Bor (List ℕ)). is_number (digits x.now)) xs ≡ are_spelled (texts xs)
spelled_texts xs = sym (list_all-map (λ x. is_number (digits x)) (λ (x : Bor (List ℕ)). x.now) xs)

pub channels_texts : (xs : List (Bor (List ℕ))) → map (λ (x : Bor (List ℕ)). channel x.now) xs ≡ map channel (texts xs)
channels_texts [] = refl
channels_texts (x ∷ xs) = ap (λ (r : List Channel15). channel x.now ∷ r) (channels_texts xs)

-- a test of the elements, as a slice has them and as the word does
pub spelled_elements : (slice items : List (Bor (List ℕ))) (word : List ℕ) (b : Bool) → slice ≡ items → texts items ≡ elements word
    → b ≡ list_all (λ (x : Bor (List ℕ)). is_number (digits x.now)) slice → b ≡ are_spelled (elements word)
spelled_elements slice items word b same is e = e ∙ spelled_texts slice ∙ ap (λ (xs : List (Bor (List ℕ))). are_spelled (texts xs)) same ∙ ap are_spelled is

-- what few elements give
pub few_elements : (xs : List (Bor (List ℕ))) (r : Result (List Channel15) RowFault) → length xs ≤ 16
    → MatchResult r (λ made. (list_all (λ (x : Bor (List ℕ)). nat_le (value (digits x.now)) 32767) xs ≡ true) × (made ≡ map (λ (x : Bor (List ℕ)). channel x.now) xs)) (λ fault. OnBroken fault (λ reason. (list_all (λ (x : Bor (List ℕ)). nat_le (value (digits x.now)) 32767) xs ≡ false) × (reason ≡ Range)))
    → MatchResult r (λ made. (are_in_range (texts xs) ≡ true) × (made ≡ map channel (texts xs))) (λ fault. OnBroken fault (λ reason. (are_in_range (texts xs) ≡ false) × (reason ≡ Range)))
few_elements xs r few is = by r is
  where
    same : length (texts xs) ≡ length xs
    same = simp length-map refl

    short : nat_le (length (texts xs)) 16 ≡ true
    short = le-leb (length (texts xs)) 16 (omega (arith, same))

    by : (r : Result (List Channel15) RowFault)
        → MatchResult r (λ made. (list_all (λ (x : Bor (List ℕ)). nat_le (value (digits x.now)) 32767) xs ≡ true) × (made ≡ map (λ (x : Bor (List ℕ)). channel x.now) xs)) (λ fault. OnBroken fault (λ reason. (list_all (λ (x : Bor (List ℕ)). nat_le (value (digits x.now)) 32767) xs ≡ false) × (reason ≡ Range)))
        → MatchResult r (λ made. (are_in_range (texts xs) ≡ true) × (made ≡ map channel (texts xs))) (λ fault. OnBroken fault (λ reason. (are_in_range (texts xs) ≡ false) × (reason ≡ Range)))
    by (Ok made) is = (rw short (list_all-map (λ x. nat_le (value (digits x)) 32767) (λ (x : Bor (List ℕ)). x.now) xs ∙ is.0), is.1 ∙ channels_texts xs)
    by (Err NoMemory) is = tt
    by (Err (Broken reason)) is = (rw short (list_all-map (λ x. nat_le (value (digits x)) 32767) (λ (x : Bor (List ℕ)). x.now) xs ∙ is.0), is.1)
