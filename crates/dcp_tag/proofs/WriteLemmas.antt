-- Bytes that are written one piece after another.
use Rattle.std.proofs.Common.{◌≡◌, ℕ, ◌+◌, ◌-◌, ◌≤◌, List, ◌++◌, length, take, drop, sym, ap, ◌∙◌, append_assoc, arith, length-append}
use Rattle.std.proofs.lemmas.List.{take_at, drop_at, drop-drop, length-take-le}

-- two pieces, the second one behind the first
pub put-after : (into once twice a b : List ℕ) (at next : ℕ) → at + length a ≤ length into → next ≡ at + length a
    → once ≡ take at into ++ a ++ drop (at + length a) into
    → twice ≡ take next once ++ b ++ drop (next + length b) once
    → twice ≡ take at into ++ (a ++ b) ++ drop (at + length (a ++ b)) into
put-after into once twice a b at next within is_next is_once is_twice =
    let size : length (take at into ++ a) ≡ next = omega (arith, length-append (take at into) a, length-take-le at into (omega arith), is_next) in
    let front : take next once ≡ take at into ++ a = ap (take next) is_once ∙ take_at (take at into ++ a) (drop (at + length a) into) next size in
    let behind : drop next once ≡ drop (at + length a) into = ap (drop next) is_once ∙ drop_at (take at into ++ a) (drop (at + length a) into) next size in
    let sum : at + length a + length b ≡ at + length (a ++ b) = omega (arith, length-append a b) in
    let back : drop (next + length b) once ≡ drop (at + length (a ++ b)) into =
    sym (drop-drop (length b) next once) ∙ (ap (drop (length b)) behind ∙ (drop-drop (length b) (at + length a) into ∙ ap (λ (n : ℕ). drop n into) sum)) in
    is_twice
    ∙ (ap (λ (l : List ℕ). l ++ b ++ drop (next + length b) once) front
    ∙ (ap (λ (l : List ℕ). take at into ++ a ++ b ++ l) back
    ∙ ap (λ (l : List ℕ). l ++ drop (at + length (a ++ b)) into) (append_assoc (take at into) a b)))

-- the piece that was written
pub put-piece : (into new a : List ℕ) (at end : ℕ) → at + length a ≤ length into → end ≡ at + length a → new ≡ take at into ++ a ++ drop end into → take (end - at) (drop at new) ≡ a
put-piece into new a at end within is_end is_new =
    let size : length (take at into) ≡ at = length-take-le at into (omega arith) in
    let count : length a ≡ end - at = omega arith in
    ap (λ (l : List ℕ). take (end - at) (drop at l)) (is_new ∙ append_assoc (take at into) a (drop end into))
    ∙ (ap (take (end - at)) (drop_at (take at into) (a ++ drop end into) at size) ∙ take_at a (drop end into) (end - at) count)
