use Rattle.std.proofs.Common.{◌≡◌, ◌+◌, ◌≤◌, ◌⊎◌, inl, inr, ℕ, List, ◌++◌, length, take, drop, sym, ◌∙◌, ap, arith, length-append}
use Rattle.std.proofs.lemmas.Bool.{cases_lt}
use Rattle.std.proofs.lemmas.List.{append-nil, length-take-le, take_all, take_at, take-append-le}
use Rattle.std.proofs.Math.Seq.{take-append-add}
use Rattle.capture_reader.proofs.walker.copy_front.Goals as goal

-- The first bytes of two parts, one behind the other: of the second none before all of the first are there.
firsts : (front back : List ℕ) (a b : ℕ) → a ≤ length front → (length front ≤ a) ⊎ (b ≡ 0) → take a front ++ take b back ≡ take (a + b) (front ++ back)
firsts front back a b within all =
    elim all [
      | inl whole ↦
          ap (λ (l : List ℕ). l ++ take b back) (take_all a front whole)
          ∙ (sym (take-append-add front back b)
          ∙ ap (λ (n : ℕ). take (n + b) (front ++ back)) (let e : length front ≡ a = omega (arith, within, whole) in e))
      | inr none ↦
          ap (λ (n : ℕ). take a front ++ take n back) none
          ∙ (append-nil (take a front)
          ∙ (sym (take-append-le a front back within)
          ∙ ap (λ (n : ℕ). take n (front ++ back)) (let e : a ≡ a + b = omega (arith, none) in e)))
    ]

pub returns-clause-copied : goal.returns-clause-copied
returns-clause-copied c =
    let front : List ℕ = c.as_slices.result.0.now in
    let back : List ℕ = c.as_slices.result.1.now in
    let a : ℕ = c.min-from_front.result in
    let b : ℕ = c.min-from_back.result in
    let once : List ℕ = c.put_at.new.into in
    let behind : List ℕ = drop (a + length (take b back)) once in
    let size_a : length (take a front) ≡ a = length-take-le a front (omega (arith, c.min-from_front.ensures)) in
    let size_b : length (take b back) ≡ b = length-take-le b back (omega (arith, c.min-from_back.ensures)) in
    let kept : take a once ≡ take a front = ap (take a) c.put_at.ensures.put ∙ take_at (take a front) (drop (0 + length (take a front)) c.args.head.now) a size_a in
    let all : (length front ≤ a) ⊎ (b ≡ 0) =
    elim (cases_lt a (length front)) [
      | inl lt ↦ inr (omega (arith, lt, c.min-from_front.ensures, c.min-from_back.ensures, c.put_at.auto.into))
      | inr le ↦ inl le
    ] in
    ap (take (a + b)) (c.put_at-2.ensures.put ∙ ap (λ (l : List ℕ). l ++ take b back ++ behind) kept)
    ∙ (take_at (take a front ++ take b back) behind (a + b) (omega (arith, length-append (take a front) (take b back), size_a, size_b))
    ∙ (firsts front back a b (omega (arith, c.min-from_front.ensures)) all
    ∙ ap (take (a + b)) c.as_slices.ensures))
