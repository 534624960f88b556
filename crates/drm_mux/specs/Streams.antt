-- The streams of a multiplex frame, by where their parts stand in it.
use Rattle.std.specs.Prelude.{ℕ, List, [], ◌∷◌, ◌++◌, sum_by}
use Rattle.drm_bits.specs.declared.description.Part.{Part}

abbrev pub parts_a_length : List Part → ℕ
parts_a_length parts = sum_by (λ (p : Part). p.a) parts

-- lists, one after another
abbrev pub joined : List (List ℕ) → List ℕ
joined [] = []
joined (stream ∷ streams) = stream ++ joined streams
