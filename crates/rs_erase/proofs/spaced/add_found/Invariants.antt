use Rattle.std.proofs.Common.{ℕ, ◌≡◌, ◌<◌, List, drop, get_or, length}
use Rattle.gf_field.specs.Field.{times}
use Rattle.rs_erase.specs.Equations.{word_with}
use Rattle.rs_erase.proofs.spaced.add_found.Given as goal

abbrev pub invariant-loop-j : goal.invariant-loop-j
invariant-loop-j l =
    (vs : List ℕ) → length vs ≡ length l.places
    → ((j : ℕ) → j < length l.places → get_or vs j 0 ≡ times (get_or l.weights j 0) (get_or l.sums (get_or l.lanes j 0) 0))
    → word_with (drop l.j l.places) (drop l.j vs) l.word ≡ word_with l.places vs l.fn.word
