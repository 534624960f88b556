-- A text has no more lines than bytes, but for an empty one.
use Rattle.std.proofs.Common.{ℕ, ◌≤◌, ◌+◌, suc, Bool, true, false, List, [], ◌∷◌, length, arith}
use Rattle.std.specs.Prelude.{◌==◌, if◌then◌else◌}
use Rattle.std.specs.List.{slice_split, onto_first}
use Rattle.text_lines.specs.Lines.{lines_of, without_last_empty, last_line}

onto_few : (b : ℕ) (parts : List (List ℕ)) → length (onto_first b parts) ≤ length parts + 1
onto_few b [] = omega arith
onto_few b (part ∷ parts) = omega arith

split_few : (test : ℕ → Bool) (text : List ℕ) → length (slice_split test text) ≤ length text + 1
split_few test [] = omega arith
split_few test (b ∷ text) = by (test b) (split_few test text)
  where
    by : (x : Bool) → length (slice_split test text) ≤ length text + 1 → length (if x then [] ∷ slice_split test text else onto_first b (slice_split test text)) ≤ suc (length text) + 1
    by true few = omega (arith, few)
    by false few = omega (arith, few, onto_few b (slice_split test text))

last_few : (line : List ℕ) → length (last_line line) ≤ 1
last_few [] = omega arith
last_few (b ∷ bs) = omega arith

lines_few : (parts : List (List ℕ)) → length (without_last_empty parts) ≤ length parts
lines_few [] = omega arith
lines_few (line ∷ []) = last_few line
lines_few (line ∷ next ∷ more) = omega (arith, lines_few (next ∷ more))

pub few_lines : (text : List ℕ) → length (lines_of text) ≤ length text + 1
few_lines text = omega (arith, lines_few (slice_split (λ b. b == 10) text), split_few (λ b. b == 10) text)
