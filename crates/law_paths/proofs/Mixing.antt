-- Deliveries over several paths, mixed in any way.
use Rattle.std.proofs.Common.{ℕ, suc, ◌≡◌, ◌==◌, if◌then◌else◌, Bool, true, false, List, [], ◌∷◌, refl, sym, ◌∙◌, ap, subst, arith}
use Rattle.std.specs.List.{AllZip}
use Rattle.std.proofs.lemmas.Bool.Decides.{nat_tests}
use Rattle.drm_schedule.specs.declared.plan.Plan.{Plan}
use Rattle.law_delivery.specs.Sent.{Arrival, IsArrival}
use Rattle.drm_paths.specs.Closing.{of_path}
use Rattle.law_paths.specs.Laws.{arrivals_of, MixedPathsAreOneDelivery}

-- what stands for a list that isn't empty
first_of : (plan : Plan) (arrivals : List Arrival) (datagram : List ℕ) (received : List (List ℕ)) → AllZip (IsArrival plan) arrivals (datagram ∷ received)
    → (a : Arrival) × (rest : List Arrival) × (arrivals ≡ a ∷ rest) × IsArrival plan a datagram
first_of plan [] datagram received are = absurd are
first_of plan (a ∷ rest) datagram received are = (a, rest, refl, are.0)

-- the arrivals of a path without those of the first entry, where that is one of the path's own
abbrev behind : Bool → List Arrival → List Arrival
behind true (a ∷ arrivals) = arrivals
behind true [] = []
behind false arrivals = arrivals

behind_are : (plan : Plan) (mine : Bool) (arrivals : List Arrival) (datagram : List ℕ) (received : List (List ℕ))
    → AllZip (IsArrival plan) arrivals (if mine then datagram ∷ received else received) → AllZip (IsArrival plan) (behind mine arrivals) received
behind_are plan true [] datagram received are = absurd are
behind_are plan true (a ∷ arrivals) datagram received are = are.1
behind_are plan false arrivals datagram received are = are

-- with the first entry's before them they are all of the path's
put_before : (mine : Bool) (a : Arrival) (rest arrivals later : List Arrival) → (mine ≡ true → arrivals ≡ a ∷ rest) → later ≡ behind mine arrivals → (if mine then a ∷ later else later) ≡ arrivals
put_before true a rest arrivals later own same = ap (λ l. a ∷ l) (same ∙ ap (behind true) (own refl)) ∙ sym (own refl)
put_before false a rest arrivals later own same = same

is_own : (k : ℕ) → (k == k) ≡ true
is_own k = grind (arith, nat_tests)

same_path : (k j : ℕ) → (k == j) ≡ true → k ≡ j
same_path k j same = grind (arith, nat_tests)

none_of : (plan : Plan) (arrivals : List Arrival) → AllZip (IsArrival plan) arrivals [] → [] ≡ arrivals
none_of plan [] are = refl
none_of plan (a ∷ arrivals) are = absurd are

pub mixed : MixedPathsAreOneDelivery
mixed plan paths [] each numbered are = ([], tt, λ k within. none_of plan (each k) (are k within))
mixed plan paths ((k, datagram) ∷ entries) each numbered are =
    let mine : AllZip (IsArrival plan) (each k) (datagram ∷ of_path k entries) =
    subst (λ (b : Bool). AllZip (IsArrival plan) (each k) (if b then datagram ∷ of_path k entries else of_path k entries)) (is_own k) (are k (numbered 0 (k, datagram) (omega arith))) in
    let (a, rest, own, is) = first_of plan (each k) datagram (of_path k entries) mine in
    let (arrivals, come, stand) =
    mixed plan paths entries (λ j. behind (k == j) (each j)) (λ j e less. numbered (suc j) e (omega (arith, less)))
    (λ j within. behind_are plan (k == j) (each j) datagram (of_path j entries) (are j within)) in (
      a ∷ arrivals,
      (is, come),
      λ j within.
          put_before (k == j) a rest (each j) (arrivals_of j entries arrivals) (λ same. subst (λ (n : ℕ). each n ≡ a ∷ rest) (same_path k j same) own) (stand j within),
    )
