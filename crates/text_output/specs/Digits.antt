-- Two lists as one, by turns.
use Rattle.std.specs.Prelude.{ℕ, List, [], ◌∷◌}

abbrev pub paired : List ℕ → List ℕ → List ℕ
paired [] others = []
paired (a ∷ items) [] = []
paired (a ∷ items) (b ∷ others) = a ∷ b ∷ paired items others
