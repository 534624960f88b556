-- The lines of a text that begin so, one after another.
use Rattle.std.proofs.Common.{◌≡◌, ℕ, ◌+◌, ◌<◌, ◌≤◌, Bool, true, false, List, [], ◌∷◌, cond, length, take, drop, Some, None, refl, sym, ◌∙◌, ap, subst, arith}
use Rattle.std.specs.Prelude.{◌==◌, count_by, nat_lt}
use Rattle.std.specs.Int.{from_bool}
use Rattle.std.specs.List.{slice_split, position, position_or_len, All}
use Rattle.std.proofs.lemmas.Bool.{ltb-true, ltb-false}
use Rattle.std.proofs.lemmas.List.{length-drop}
use Rattle.std.proofs.lemmas.List.Sums.{sum_by-cons, fails_before_first}
use Rattle.std.proofs.lemmas.List.Splits.{slice_split_none, slice_split_first}
use Rattle.cmd_exercise.specs.Exercise.{begins, lines_with}

abbrev is_end : ℕ → Bool
is_end byte = byte == 10

-- the first line end stands there, or there is none
record IsEnd (text : List ℕ) (end : ℕ) : Type 0 where
  pub is : end ≡ position_or_len is_end text
  pub within : end < length text

found : (text : List ℕ) (end : ℕ) → position is_end text ≡ Some end → IsEnd text end
found text end is = by (nat_lt (position_or_len is_end text) (length text)) refl is
  where
    by : (test : Bool) → nat_lt (position_or_len is_end text) (length text) ≡ test → (cond test (Some (position_or_len is_end text)) None) ≡ Some end → IsEnd text end
    by true less is = let same : position_or_len is_end text ≡ end = cc in record { is = sym same; within = subst (λ k. k < length text) same (ltb-true _ _ less) }
    by false less is = absurd cc

absent : (text : List ℕ) → position is_end text ≡ None → length text ≤ position_or_len is_end text
absent text is = by (nat_lt (position_or_len is_end text) (length text)) refl is
  where
    by : (test : Bool) → nat_lt (position_or_len is_end text) (length text) ≡ test → (cond test (Some (position_or_len is_end text)) None) ≡ None → length text ≤ position_or_len is_end text
    by true less is = absurd cc
    by false less is = ltb-false _ _ less

count_of : (front line : List ℕ) (lines : List (List ℕ)) → count_by (begins front) (line ∷ lines) ≡ from_bool (begins front line) + count_by (begins front) lines
count_of front line lines = sum_by-cons (λ l. cond (begins front l) 1 0) line lines ∙ ap (λ n. n + count_by (begins front) lines) (bit (begins front line))
  where
    bit : (b : Bool) → cond b 1 0 ≡ from_bool b
    bit true = refl
    bit false = refl

pub line_more : (front text : List ℕ) (end : ℕ) → position is_end text ≡ Some end → lines_with front text ≡ from_bool (begins front (take end text)) + lines_with front (drop (end + 1) text)
unfolding lines_with
line_more front text end is =
    let there = found text end is in
    let split : slice_split is_end text ≡ take end text ∷ slice_split is_end (drop (end + 1) text) =
    subst (λ k. slice_split is_end text ≡ take k text ∷ slice_split is_end (drop (k + 1) text)) (sym there.is) (slice_split_first is_end text 0 (subst (λ k. k < length text) there.is there.within)) in
    ap (count_by (begins front)) split ∙ count_of front (take end text) (slice_split is_end (drop (end + 1) text))

pub line_last : (front text : List ℕ) → position is_end text ≡ None → lines_with front text ≡ from_bool (begins front text)
unfolding lines_with
line_last front text is =
    let none : All (λ x. is_end x ≡ false) text = (λ k d within. fails_before_first is_end text k d (let far = absent text is in omega (arith, within, far))) in
    ap (count_by (begins front)) (slice_split_none is_end text none) ∙ count_of front text [] ∙ (let zero : from_bool (begins front text) + 0 ≡ from_bool (begins front text) = omega arith in zero)

pub end_within : (text : List ℕ) (end : ℕ) → position is_end text ≡ Some end → end < length text
end_within text end is = (found text end is).within

pub one_bit : (b : Bool) → from_bool b ≤ 1
one_bit true = omega arith
one_bit false = omega arith

pub shorter : (text : List ℕ) (end : ℕ) → end < length text → length (drop (end + 1) text) + 1 ≤ length text
shorter text end within = let size = length-drop (end + 1) text in omega (arith, size, within)
