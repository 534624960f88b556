-- The erased positions of chunks of one packet, and the patterns that are kept for them.
use Rattle.std.specs.Option.{IfSome}
use Rattle.std.specs.Result.{OnOk}
use Rattle.std.proofs.Common.{subst, ℕ, zero, suc, ◌≡◌, ◌+◌, ◌*◌, ◌/◌, ◌%◌, ◌<◌, ◌≤◌, Bool, false, cond, List, [], ◌∷◌, ◌++◌, Option, Some, None, Result, Ok, Err, length, take, get_or, refl, sym, ap, ap₂, ◌∙◌, arith}
use Rattle.std.proofs.Math.Nat.{add-mul-mod_self_left, div-add-mod}
use Rattle.std.proofs.lemmas.List.{ext_get_or, get_or-take, length-take-le}
use Rattle.std.proofs.lemmas.Nat.{mod_below}
use Rattle.rs_patterns.specs.Positions.{erased_positions, position}
use Rattle.rs_erase.specs.Code.{AgreesOutside, IsCodeWord, IsOnlyCodeWord}
use Rattle.rs_erase.specs.Spaced.{HasMessage, SpacedPlaces}
use Rattle.rs_patterns.specs.declared.patterns.Kept.{Kept}
use Rattle.rs_patterns.specs.Patterns.{IsFor, IsWellFormed}
use Rattle.rs_patterns.specs.Marks.{is_marked}

-- the marks of the fragments decide
pub positions_below : (count : ℕ) (a b : ℕ → Bool) → 0 < count → ((i : ℕ) → i < count → a i ≡ b i) → (start k n : ℕ)
    → erased_positions count a start k n ≡ erased_positions count b start k n
unfolding erased_positions
positions_below count a b some same start k zero = refl
positions_below count a b some same start k (suc n) =
    ap₂ (λ l x. l ++ cond x [] (position k n ∷ [])) (positions_below count a b some same start k n) (same ((start + n) % count) (mod_below (start + n) count some))

pub same_index : (count start n : ℕ) → (start % count + n) % count ≡ (start + n) % count
same_index count start n =
    let whole = div-add-mod start count in
    let e : start + n ≡ start % count + n + count * (start / count) = omega (arith, whole) in
    sym (ap (λ (p : ℕ). p % count) e ∙ add-mul-mod_self_left (start % count + n) count (start / count))

-- and the fragment that a chunk begins with
positions_by_first : (count : ℕ) (kept : ℕ → Bool) (start k n : ℕ) → erased_positions count kept (start % count) k n ≡ erased_positions count kept start k n
unfolding erased_positions
positions_by_first count kept start k zero = refl
positions_by_first count kept start k (suc n) =
    ap₂ (λ l x. l ++ cond x [] (position k n ∷ [])) (positions_by_first count kept start k n) (ap kept (same_index count start n))

-- the chunks that a pattern is for have the same erased positions
pub same_positions : (kept : Kept) (count k start : ℕ) (marks : List Bool) → 0 < count → IsFor kept count k (start % count) marks
    → erased_positions kept.count (is_marked kept.marks) kept.first kept.k (kept.k + 48) ≡ erased_positions count (is_marked marks) start k (k + 48)
same_positions kept count k start marks some is =
    let kinds = is_marked kept.marks in
    ap₂ (λ (c l : ℕ). erased_positions c kinds kept.first l (l + 48)) is.same_count is.same_k
    ∙ ap (λ (f : ℕ). erased_positions count kinds f k (k + 48)) is.same_first
    ∙ positions_by_first count kinds start k (k + 48)
    ∙ positions_below count kinds (is_marked marks) some
    (λ i lt. sym (get_or-take count kept.marks i false lt) ∙ ap (λ (l : List Bool). get_or l i false) is.same_marks ∙ get_or-take count marks i false lt)
    start k (k + 48)

-- the places and the distance of a pattern that is there
pub pattern_in : (found : Option SpacedPlaces) (pattern : SpacedPlaces) (es : List ℕ) (d : ℕ) → IfSome found (λ p. p ≡ record { places = es; distance = d })
    → found ≡ Some pattern → (pattern.places ≡ es) × (pattern.distance ≡ d)
pattern_in found pattern es d right is =
    let same : pattern ≡ record { places = es; distance = d } = subst (λ (p : Option SpacedPlaces). IfSome p (λ q. q ≡ record { places = es; distance = d })) is right in
    (ap (λ (v : SpacedPlaces). v.places) same, ap (λ (v : SpacedPlaces). v.distance) same)

-- a kept pattern is the one of these chunks, if it is for them
pub right_pattern : (kept : Kept) (pattern : SpacedPlaces) (count k start : ℕ) (marks : List Bool) → 0 < count → IsWellFormed kept → kept.pattern ≡ Some pattern
    → IsFor kept count k (start % count) marks
    → (pattern.places ≡ erased_positions count (is_marked marks) start k (k + 48)) × (pattern.distance ≡ kept.distance)
right_pattern kept pattern count k start marks some right is for =
    let es = erased_positions kept.count (is_marked kept.marks) kept.first kept.k (kept.k + 48) in
    let here = pattern_in kept.pattern pattern es kept.distance right is in
    (here.0 ∙ same_positions kept count k start marks some for, here.1)

-- and where one is for these chunks, their pattern is right for it
pub right_with : (kept : Kept) (pattern : Option SpacedPlaces) (count k start : ℕ) (marks : List Bool) → 0 < count
    → IfSome pattern (λ p. p ≡ record { places = erased_positions count (is_marked marks) start k (k + 48); distance = kept.distance })
    → IsFor kept count k (start % count) marks → IsWellFormed (record kept { pattern = pattern })
right_with kept None count k start marks some is for = tt
right_with kept (Some pattern) count k start marks some is for =
    is
    ∙ ap (λ (es : List ℕ). record { places = es; distance = kept.distance }) (sym (same_positions kept count k start marks some for))

-- The word's front is that of each code word that agrees.
pub same_front : (es old new word : List ℕ) (k : ℕ) → k ≤ 207 → length new ≡ 255 → HasMessage es old new → IsCodeWord word → AgreesOutside es old word
    → take k new ≡ take k word
same_front es old new word k few ln message code agrees =
    let lw = code.long in
    let ll = length-take-le k new (omega arith) in
    let lr = length-take-le k word (omega arith) in
    ext_get_or 0 (take k new) (take k word) (ll ∙ sym lr)
    (λ q lq. get_or-take k new q 0 (omega arith) ∙ message word code agrees q (omega arith) ∙ sym (get_or-take k word q 0 (omega arith)))

-- where there is one code word, the new word has its message
pub whole_message : {E : Type 0} (result : Result (Unit {0}) E) (es old new : List ℕ) → OnOk result (IsOnlyCodeWord es old new) → OnOk result (HasMessage es old new)
whole_message (Ok done) es old new only = λ word code agrees q lq. ap (λ (zs : List ℕ). get_or zs q 0) (sym (only word code agrees))
whole_message (Err fault) es old new only = tt
