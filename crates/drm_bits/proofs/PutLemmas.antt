-- Bytes that were put over others at a place.
use Rattle.std.proofs.Common.{ℕ, ◌≡◌, ◌+◌, ◌-◌, ◌<◌, ◌≤◌, List, ◌++◌, length, get_or, take, drop, refl, sym, ap, ◌∙◌, append_assoc, arith}
use Rattle.std.proofs.lemmas.List.{length-append, length-take-le, length-drop, get_or_append_left, get_or-append_right, get_or-drop, get_or-take, take_at, drop_at, take-take, drop-take}

-- what was put is as long as what it was put over,
pub put_long : (old part new : List ℕ) (at n : ℕ) → length old ≡ n → at + length part ≤ n → new ≡ take at old ++ part ++ drop (at + length part) old → length new ≡ n
put_long old part new at n long fits is =
    let a = ap length is in
    let b = length-append (take at old ++ part) (drop (at + length part) old) in
    let c = length-append (take at old) part in
    let d = length-take-le at old (omega (arith, long, fits)) in
    let e = length-drop (at + length part) old in
    omega (arith, a, b, c, d, e, long, fits)

-- leaves what lies behind it
pub put_behind : (old part new : List ℕ) (at p : ℕ) → at ≤ length old → new ≡ take at old ++ part ++ drop (at + length part) old → at + length part ≤ p
    → get_or new p 0 ≡ get_or old p 0
put_behind old part new at p room is l =
    let long = length-append (take at old) part in
    let front = length-take-le at old room in
    ap (λ (xs : List ℕ). get_or xs p 0) is
    ∙ get_or-append_right (take at old ++ part) (drop (at + length part) old) (length (take at old ++ part)) p 0 refl (omega (arith, long, front, l))
    ∙ get_or-drop (at + length part) old (p - length (take at old ++ part)) 0
    ∙ ap (λ n. get_or old n 0) (let e : at + length part + (p - length (take at old ++ part)) ≡ p = omega (arith, long, front, l) in e)

-- and before it,
pub put_before : (old part new : List ℕ) (at p : ℕ) → at ≤ length old → new ≡ take at old ++ part ++ drop (at + length part) old → p < at
    → get_or new p 0 ≡ get_or old p 0
put_before old part new at p room is l =
    let long = length-append (take at old) part in
    let front = length-take-le at old room in
    ap (λ (xs : List ℕ). get_or xs p 0) is
    ∙ get_or_append_left (take at old ++ part) (drop (at + length part) old) 0 p (omega (arith, long, front, l))
    ∙ get_or_append_left (take at old) part 0 p (omega (arith, front, l))
    ∙ get_or-take at old p 0 l

-- and stands at its place: one byte of it,
pub put_byte : (old part new : List ℕ) (at j place : ℕ) → at ≤ length old → new ≡ take at old ++ part ++ drop (at + length part) old → j < length part
    → place ≡ at + j → get_or new place 0 ≡ get_or part j 0
put_byte old part new at j place room is l e =
    let long = length-append (take at old) part in
    let front = length-take-le at old room in
    ap (λ (xs : List ℕ). get_or xs place 0) is
    ∙ get_or_append_left (take at old ++ part) (drop (at + length part) old) 0 place (omega (arith, long, front, l, e))
    ∙ get_or-append_right (take at old) part at place 0 front (omega (arith, e))
    ∙ ap (λ n. get_or part n 0) (let m : place - at ≡ j = omega (arith, e) in m)

-- and all of it
pub put_there : (old part new : List ℕ) (at n : ℕ) → at + n ≤ length old → length part ≡ n → new ≡ take at old ++ part ++ drop (at + length part) old
    → take n (drop at new) ≡ part
put_there old part new at n room long is =
    let rest : List ℕ = drop (at + length part) old in
    let front : length (take at old) ≡ at = length-take-le at old (omega arith) in
    ap (λ (l : List ℕ). take n (drop at l)) (is ∙ append_assoc (take at old) part rest)
    ∙ (ap (take n) (drop_at (take at old) (part ++ rest) at front) ∙ take_at part rest n long)

-- what stands before a place is known from what is before it
pub same_before : (old new : List ℕ) (at place n : ℕ) → take at new ≡ take at old → place + n ≤ at → take n (drop place new) ≡ take n (drop place old)
same_before old new at place n same within =
    let part : (l : List ℕ) → take n (drop place l) ≡ take n (drop place (take at l)) = λ l.
    sym (drop-take place n l) ∙ (ap (drop place) (sym (take-take (place + n) at l within)) ∙ drop-take place n (take at l)) in
    part new ∙ (ap (λ (l : List ℕ). take n (drop place l)) same ∙ sym (part old))

-- the front with what was put, and what is behind it
pub put_front : (old part new : List ℕ) (at n : ℕ) → at ≤ length old → length part ≡ n → new ≡ take at old ++ part ++ drop (at + length part) old → take (at + n) new ≡ take at old ++ part
put_front old part new at n room long is =
    let front : length (take at old ++ part) ≡ at + n = omega (arith, length-append (take at old) part, length-take-le at old room, long) in
    ap (take (at + n)) is ∙ take_at (take at old ++ part) (drop (at + length part) old) (at + n) front

pub put_rest : (old part new : List ℕ) (at n : ℕ) → at ≤ length old → length part ≡ n → new ≡ take at old ++ part ++ drop (at + length part) old → drop (at + n) new ≡ drop (at + n) old
put_rest old part new at n room long is =
    let front : length (take at old ++ part) ≡ at + n = omega (arith, length-append (take at old) part, length-take-le at old room, long) in
    ap (drop (at + n)) is ∙ (drop_at (take at old ++ part) (drop (at + length part) old) (at + n) front ∙ ap (λ k. drop (at + k) old) long)
