-- What a journal has of a path, compared with what the path took, entry by entry.
use Rattle.std.proofs.Common.{◌≡◌, ℕ, zero, suc, ◌+◌, ◌<◌, ◌≤◌, ◌==◌, min, true, false, IsTrue, List, [], ◌∷◌, ◌++◌, map, length, take, drop, slice_get, slice_index_or, None, Some, refl, sym, ◌∙◌, ap, arith, append_assoc, add-one, length-take}
use Rattle.std.proofs.lemmas.List.{append-nil}
use Rattle.std.proofs.lemmas.Bool.Decides.{nat_tests}
use Rattle.drm_paths.specs.Closing.{of_path, IsDifference}

take_none : {X : Type 0} (xs : List X) → take 0 xs ≡ []
take_none [] = refl
take_none (x ∷ xs) = refl

take_more : {X : Type 0} (xs : List X) (n : ℕ) (x : X) → slice_get xs n ≡ Some x → take (suc n) xs ≡ take n xs ++ x ∷ []
take_more [] n x is = absurd cc
take_more (y ∷ xs) zero x is = let e : y ≡ x = cc in ap (λ z. z ∷ []) e
take_more (y ∷ xs) (suc n) x is = ap (λ l. y ∷ l) (take_more xs n x is)

take_front : {X : Type 0} (n : ℕ) (xs ys : List X) → length xs ≡ n → take n (xs ++ ys) ≡ xs
take_front zero [] ys e = take_none ys
take_front (suc n) [] ys e = absurd (omega (arith, e))
take_front zero (x ∷ xs) ys e = absurd (omega (arith, e))
take_front (suc n) (x ∷ xs) ys e = ap (λ l. x ∷ l) (take_front n xs ys (omega (arith, e)))

get_behind : {X : Type 0} (n : ℕ) (xs ys : List X) (x : X) → length xs ≡ n → slice_get (xs ++ x ∷ ys) n ≡ Some x
get_behind zero [] ys x e = refl
get_behind (suc n) [] ys x e = absurd (omega (arith, e))
get_behind zero (y ∷ xs) ys x e = absurd (omega (arith, e))
get_behind (suc n) (y ∷ xs) ys x e = get_behind n xs ys x (omega (arith, e))

get_none : {X : Type 0} (n : ℕ) (xs : List X) → length xs ≡ n → slice_get xs n ≡ None
get_none n [] e = refl
get_none zero (y ∷ xs) e = absurd (omega (arith, e))
get_none (suc n) (y ∷ xs) e = get_none n xs (omega (arith, e))

get_some : {X : Type 0} (n : ℕ) (xs : List X) → n < length xs → slice_get xs n ≡ None → ⊥
get_some n [] l e = omega (arith, l)
get_some zero (y ∷ xs) l e = cc
get_some (suc n) (y ∷ xs) l e = get_some n xs (omega (arith, l)) e

take_whole : {X : Type 0} (n : ℕ) (xs : List X) → length xs ≡ n → take n xs ≡ xs
take_whole zero [] e = refl
take_whole (suc n) [] e = refl
take_whole zero (x ∷ xs) e = absurd (omega (arith, e))
take_whole (suc n) (x ∷ xs) e = ap (λ l. x ∷ l) (take_whole n xs (omega (arith, e)))

within_some : {X : Type 0} (xs : List X) (n : ℕ) (x : X) → slice_get xs n ≡ Some x → n < length xs
within_some [] n x is = absurd cc
within_some (y ∷ xs) zero x is = omega arith
within_some (y ∷ xs) (suc n) x is = let l : n < length xs = within_some xs n x is in omega (arith, l)

-- the next entry
pub next_entry : {X Y : Type 0} (f : X → Y) (xs : List X) (n : ℕ) (d : X) → n < length xs → drop n (map f xs) ≡ f (slice_index_or xs n d) ∷ drop (n + 1) (map f xs)
next_entry f [] n d l = absurd (omega (arith, l))
next_entry f (x ∷ xs) zero d l = refl
next_entry f (x ∷ xs) (suc n) d l =
    let later : suc (n + 1) ≡ suc n + 1 = omega arith in
    next_entry f xs n d (omega (arith, l)) ∙ ap (λ m. f (slice_index_or xs n d) ∷ drop m (map f (x ∷ xs))) later

pub not_false : IsTrue false → ⊥
not_false is = cc

pub test_true : (m n : ℕ) → m ≡ n → (m == n) ≡ true
test_true m n is = grind (arith, nat_tests)

pub test_false : (m n : ℕ) → (m ≡ n → ⊥) → (m == n) ≡ false
test_false m n other = grind (arith, nat_tests)

-- The entries up to here have of the path the front of what it took.
pub record SoFar (number : ℕ) (entries : List (ℕ × List ℕ)) (kept : List (List ℕ)) (at index : ℕ) : Type 0 where
  pub split : take at kept ++ of_path number (drop index entries) ≡ of_path number entries
  pub within : at ≤ length kept

pub so_far_none : (number : ℕ) (entries : List (ℕ × List ℕ)) (kept : List (List ℕ)) → SoFar number entries kept 0 0
so_far_none number entries kept = record { split = ap (λ l. l ++ of_path number entries) (take_none kept); within = omega arith }

module _ (number : ℕ) (entries : List (ℕ × List ℕ)) (kept : List (List ℕ)) (at index : ℕ) (s : SoFar number entries kept at index) where
  taken : length (take at kept) ≡ at
  taken = let w : at ≤ length kept = s.within in let e : length (take at kept) ≡ min at (length kept) = length-take at kept in omega (arith, e, w)

  module _ (e : ℕ × List ℕ) (next : drop index entries ≡ e ∷ drop (index + 1) entries) where
    pub passes : (e.0 == number) ≡ false → SoFar number entries kept at (index + 1)
    passes other = record {
      split = ap (λ l. take at kept ++ l) (sym (ap (of_path number) next ∙ rw other refl)) ∙ s.split;
      within = s.within;
    }

    mine : (e.0 == number) ≡ true → of_path number (drop index entries) ≡ e.1 ∷ of_path number (drop (index + 1) entries)
    mine same = ap (of_path number) next ∙ rw same refl

    pub agrees : (e.0 == number) ≡ true → slice_get kept at ≡ Some e.1 → SoFar number entries kept (at + 1) (index + 1)
    agrees same is =
        let l : at < length kept = within_some kept at e.1 is in
        let rest : List (List ℕ) = of_path number (drop (index + 1) entries) in
        record {
          split = ap (λ n. take n kept ++ rest) (add-one at)
              ∙ ap (λ x. x ++ rest) (take_more kept at e.1 is)
              ∙ append_assoc (take at kept) (e.1 ∷ []) rest
              ∙ ap (λ x. take at kept ++ x) (sym (mine same))
              ∙ s.split;
          within = omega (arith, l);
        }

    pub differs : (e.0 == number) ≡ true → (slice_get kept at ≡ Some e.1 → ⊥) → IsDifference (of_path number entries) kept at (Some e.1)
    differs same other =
        let whole : of_path number entries ≡ take at kept ++ (e.1 ∷ of_path number (drop (index + 1) entries)) = sym s.split ∙ ap (λ x. take at kept ++ x) (mine same) in
        record {
          before = ap (take at) whole ∙ take_front at (take at kept) (e.1 ∷ of_path number (drop (index + 1) entries)) taken;
          there_is = ap (λ l. slice_get l at) whole ∙ get_behind at (take at kept) (of_path number (drop (index + 1) entries)) e.1 taken;
          differs = other;
        }

  all_read : drop index entries ≡ [] → of_path number entries ≡ take at kept
  all_read none = sym s.split ∙ ap (λ x. take at kept ++ of_path number x) none ∙ append-nil (take at kept)

  pub same_list : drop index entries ≡ [] → length kept ≤ at → of_path number entries ≡ kept
  same_list none all = all_read none ∙ take_whole at kept (let w : at ≤ length kept = s.within in omega (arith, w, all))

  pub ends_before : drop index entries ≡ [] → at < length kept → IsDifference (of_path number entries) kept at None
  ends_before none more = record {
    before = ap (take at) (all_read none) ∙ take_whole at (take at kept) taken;
    there_is = ap (λ l. slice_get l at) (all_read none) ∙ get_none at (take at kept) taken;
    differs = λ e. get_some at kept more e;
  }
