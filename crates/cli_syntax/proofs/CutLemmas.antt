-- Where a text is cut.
use Rattle.std.proofs.Common.{◌≡◌, ◌≢◌, ℕ, suc, ◌<◌, Bool, true, false, eqb, List, [], ◌∷◌, ◌++◌, length, get_or, Option, Some, None, arith, refl, sym, ap, cond, ◌∙◌}
use Rattle.std.specs.Prelude.{MatchOption, option_map}
use Rattle.std.specs.Borrow.{Bor}
use Rattle.std.specs.List.{AllByRecursion}
use Rattle.std.proofs.lemmas.Bool.Decides.{nat_tests}
use Rattle.std.proofs.lemmas.Option.{some_pair_parts}
use Rattle.cli_syntax.specs.Addressing.{cut, with_byte}

pub differs : (a b : ℕ) → a ≢ b → eqb a b ≡ false
differs a b h = grind (arith, nat_tests)

pub itself : (a : ℕ) → eqb a a ≡ true
itself a = grind (arith, nat_tests)

-- no byte is the mark
abbrev pub Lacks : ℕ → List ℕ → Type 0
Lacks mark bs = AllByRecursion (λ b. b ≢ mark) bs

pub lacks_by_index : (mark : ℕ) (bs : List ℕ) → ((i : ℕ) → i < length bs → get_or bs i 0 ≢ mark) → Lacks mark bs
lacks_by_index mark [] h = tt
lacks_by_index mark (b ∷ bs) h = (h 0 (omega arith), lacks_by_index mark bs (λ i k. h (suc i) (omega arith)))

pub cut-none : (mark : ℕ) (bs : List ℕ) → Lacks mark bs → cut mark bs ≡ None
unfolding cut
cut-none mark [] h = refl
cut-none mark (b ∷ bs) h = rw (differs b mark h.0, cut-none mark bs h.1) refl

pub cut-at : (mark : ℕ) (front behind : List ℕ) → Lacks mark front → cut mark (front ++ mark ∷ behind) ≡ Some (front, behind)
unfolding cut
cut-at mark [] behind h = rw (itself mark) refl
cut-at mark (b ∷ bs) behind h = rw (differs b mark h.0, cut-at mark bs behind h.1) refl

pub cut_from : (mark : ℕ) (bs : List ℕ) (r : Option (Bor (List ℕ) × Bor (List ℕ)))
    → MatchOption r ((i : ℕ) → i < length bs → get_or bs i 0 ≢ mark) (λ x. (bs ≡ x.0.now ++ (mark ∷ x.1.now)) × ((i : ℕ) → i < length x.0.now → get_or x.0.now i 0 ≢ mark))
    → option_map (λ parts. (parts.0.now, parts.1.now)) r ≡ cut mark bs
cut_from mark bs None h = sym (cut-none mark bs (lacks_by_index mark bs h))
cut_from mark bs (Some x) h = sym (ap (cut mark) h.0 ∙ cut-at mark x.0.now x.1.now (lacks_by_index mark x.0.now h.1))

-- what a cut text is
pub record IsCut (mark : ℕ) (bs front behind : List ℕ) : Type 0 where
  pub whole : bs ≡ front ++ mark ∷ behind
  pub first : Lacks mark front

later : (mark b : ℕ) (bs front behind : List ℕ) (r : Option (List ℕ × List ℕ)) → b ≢ mark → ((f g : List ℕ) → r ≡ Some (f, g) → IsCut mark bs f g) → option_map (with_byte b) r ≡ Some (front, behind) → IsCut mark (b ∷ bs) front behind
later mark b bs front behind None differ more e = absurd cc
later mark b bs front behind (Some (f, g)) differ more e =
    let inner = more f g refl in
    let parts = some_pair_parts (b ∷ f) front g behind e in
    rw (← parts.0, ← parts.1) (record { whole = ap (λ (l : List ℕ). b ∷ l) inner.whole; first = (differ, inner.first) })

here : (mark b : ℕ) (bs front behind : List ℕ) → b ≡ mark → ◌≡◌ {A = Option (List ℕ × List ℕ)} (Some ([], bs)) (Some (front, behind)) → IsCut mark (b ∷ bs) front behind
here mark b bs front behind same e =
    let parts = some_pair_parts [] front bs behind e in
    rw (← parts.0, ← parts.1, same) (record { whole = refl; first = tt })

by_test : (mark b : ℕ) (bs front behind : List ℕ) (t : Bool) (r : Option (List ℕ × List ℕ)) → t ≡ eqb b mark → ((f g : List ℕ) → r ≡ Some (f, g) → IsCut mark bs f g)
    → ◌≡◌ {A = Option (List ℕ × List ℕ)} (cond t (Some ([], bs)) (option_map (with_byte b) r)) (Some (front, behind)) → IsCut mark (b ∷ bs) front behind
by_test mark b bs front behind true r is more e = here mark b bs front behind (grind (arith, nat_tests)) e
by_test mark b bs front behind false r is more e = later mark b bs front behind r (grind (arith, nat_tests)) more e

pub cut_is : (mark : ℕ) (bs front behind : List ℕ) → cut mark bs ≡ Some (front, behind) → IsCut mark bs front behind
unfolding cut
cut_is mark [] front behind e = absurd cc
cut_is mark (b ∷ bs) front behind e = by_test mark b bs front behind (eqb b mark) (cut mark bs) refl (λ f g h. cut_is mark bs f g h) e

-- a text that can't be cut lacks the mark
pub lacks_by_cut : (mark : ℕ) (bs : List ℕ) → cut mark bs ≡ None → Lacks mark bs
unfolding cut
lacks_by_cut mark [] e = tt
lacks_by_cut mark (b ∷ bs) e = by_result (eqb b mark) (cut mark bs) refl (λ f. lacks_by_cut mark bs f) e
  where
    by_result : (t : Bool) (r : Option (List ℕ × List ℕ)) → t ≡ eqb b mark → (r ≡ None → Lacks mark bs) → ◌≡◌ {A = Option (List ℕ × List ℕ)} (cond t (Some ([], bs)) (option_map (with_byte b) r)) None → Lacks mark (b ∷ bs)
    by_result true r is h e = absurd cc
    by_result false None is h e = (grind (arith, nat_tests), h refl)
    by_result false (Some p) is h e = absurd cc
