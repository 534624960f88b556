-- Pairs and datagrams, place by place.
use Rattle.std.proofs.Common.{ℕ, zero, suc, ◌≡◌, ◌+◌, ◌<◌, List, [], ◌∷◌, ◌++◌, length, map, subst, arith}
use Rattle.std.specs.Prelude.{slice_index_or}
use Rattle.std.specs.List.{range_with_len, flat_map, AllZip}
use Rattle.dcp_pft.specs.declared.carry.Carry.{Carry}
use Rattle.dcp_collect.specs.Runs.{CollectorItem}
use Rattle.drm_gate.specs.Passing.{Outcome, OutcomeOf, OutcomesOf, datagrams_of, sent_of}
use Rattle.law_gate.specs.Laws.{pairs_at}

join : {A B : Type 0} (P : A → B → Type 0) (xs : List A) (ys : List B) (us : List A) (vs : List B) → AllZip P xs ys → AllZip P us vs → AllZip P (xs ++ us) (ys ++ vs)
join P [] [] us vs first second = second
join P [] (y ∷ ys) us vs first second = absurd first
join P (x ∷ xs) [] us vs first second = absurd first
join P (x ∷ xs) (y ∷ ys) us vs first second = (first.0, join P xs ys us vs first.1 second)

-- all datagrams of one packet
from_place : (P : ℕ × ℕ → List ℕ → Type 0) (p k n : ℕ) (datagrams : List (List ℕ)) → length datagrams ≡ n
    → ((i j : ℕ) → j ≡ k + i → i < n → P (p, j) (slice_index_or datagrams i [])) → AllZip P (map (λ i. (p, i)) (range_with_len k n)) datagrams
from_place P p k zero [] many each = tt
from_place P p k zero (d ∷ datagrams) many each = absurd (omega (arith, many))
from_place P p k (suc n) [] many each = absurd (omega (arith, many))
from_place P p k (suc n) (d ∷ datagrams) many each = (
  each 0 k (omega arith) (omega arith),
  from_place P p (k + 1) n datagrams (omega (arith, many)) (λ i j is below. each (suc i) j (omega (arith, is)) (omega (arith, below))),
)

pub each_at : (P : ℕ × ℕ → List ℕ → Type 0) (p n : ℕ) (datagrams : List (List ℕ)) → length datagrams ≡ n → ((i : ℕ) → i < n → P (p, i) (slice_index_or datagrams i [])) → AllZip P (pairs_at p n) datagrams
each_at P p n datagrams many each =
    from_place P p 0 n datagrams many
    (λ i j is below. let same : i ≡ j = omega (arith, is) in let Q : ℕ → Type 0 = λ m. P (p, m) (slice_index_or datagrams i []) in subst Q same (each i below))

-- all that becomes of the items of some numbers
pub gather : (P : ℕ × ℕ → List ℕ → Type 0) (carry : Carry) (first : ℕ) (of : ℕ → CollectorItem) (pairs : ℕ → List (ℕ × ℕ)) (k n : ℕ) (fates : List Outcome) → OutcomesOf carry first (map of (range_with_len k n)) fates
    → ((q : ℕ) (fate : Outcome) → OutcomeOf carry first (of q) fate → AllZip P (pairs q) (datagrams_of fate)) → AllZip P (flat_map pairs (range_with_len k n)) (sent_of fates)
gather P carry first of pairs k zero [] become each = tt
gather P carry first of pairs k zero (fate ∷ fates) become each = absurd become
gather P carry first of pairs k (suc n) [] become each = absurd become
gather P carry first of pairs k (suc n) (fate ∷ fates) become each =
    join P (pairs k) (datagrams_of fate) (flat_map pairs (range_with_len (k + 1) n)) (sent_of fates) (each k fate become.0) (gather P carry first of pairs (k + 1) n fates become.1 each)
