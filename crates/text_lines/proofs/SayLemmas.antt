-- Lines that are read one after another, as a loop does.
use Rattle.std.proofs.Common.{◌≡◌, ℕ, ◌+◌, ◌≤◌, ◌<◌, List, [], ◌∷◌, length, map, drop, get_or, Option, None, Some, Result, Ok, refl, sym, ap, ◌∙◌, add-one, drop-cons, arith}
use Rattle.std.specs.Borrow.{Bor}
use Rattle.std.proofs.lemmas.List.{nil_from_length, length-drop}
use Rattle.text_lines.specs.Faults.{FailsAt, lines_say, ◌>>=◌}

abbrev texts : List (Bor (List ℕ)) → List (List ℕ)
texts lines = map (λ w. w.now) lines

module _ {S F : Type 0} (says : S → ℕ → List ℕ → Result S F) where
  opens : (said : S) (n i : ℕ) (lines : List (Bor (List ℕ))) (d : Bor (List ℕ)) → i < length lines
      → lines_say says said n (texts (drop i lines)) ≡ (says said n (get_or lines i d).now >>= λ more. lines_say says more (n + 1) (texts (drop (i + 1) lines)))
  unfolding lines_say
  opens said n i lines d lt =
      let e : drop i lines ≡ get_or lines i d ∷ drop (i + 1) lines = rw (add-one, drop-cons lines i d) refl in
      ap (λ (ls : List (Bor (List ℕ))). lines_say says said n (texts ls)) e

  -- one line more
  pub goes : (said more : S) (n i : ℕ) (lines : List (Bor (List ℕ))) (d : Bor (List ℕ)) (final : Result S F) → i < length lines
      → says said n (get_or lines i d).now ≡ Ok more → lines_say says said n (texts (drop i lines)) ≡ final → lines_say says more (n + 1) (texts (drop (i + 1) lines)) ≡ final
  goes said more n i lines d final lt here so_far =
      let one : lines_say says said n (texts (drop i lines)) ≡ lines_say says more (n + 1) (texts (drop (i + 1) lines)) = opens said n i lines d lt ∙ rw here refl in
      sym one ∙ so_far

  -- a line with a fault
  pub stops : (fault : Option F) (said : S) (n i : ℕ) (lines : List (Bor (List ℕ))) (d : Bor (List ℕ)) (final : Result S F) → i < length lines
      → FailsAt fault (says said n (get_or lines i d).now) → lines_say says said n (texts (drop i lines)) ≡ final → FailsAt fault final
  stops None said n i lines d final lt here so_far = tt
  stops (Some f) said n i lines d final lt here so_far = sym so_far ∙ opens said n i lines d lt ∙ rw here refl

  -- the end of the lines
  pub ends : (said : S) (n i : ℕ) (lines : List (Bor (List ℕ))) (final : Result S F) → length lines ≤ i → lines_say says said n (texts (drop i lines)) ≡ final → final ≡ Ok said
  unfolding lines_say
  ends said n i lines final le so_far =
      let none : drop i lines ≡ [] = nil_from_length (drop i lines) (omega (arith, length-drop i lines)) in
      sym so_far ∙ rw none refl
