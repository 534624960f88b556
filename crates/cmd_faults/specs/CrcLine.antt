-- The line of a FAC whose last byte isn't its check value.
use Rattle.std.specs.Prelude.{ℕ, List, [], ◌∷◌, codes}
use Rattle.std.specs.List.{concat}
use Rattle.hex.specs.Hex.{encode_lower}

-- the byte that stands there and the check value, each as a list of one byte
abbrev pub crc_line : List ℕ → List ℕ → List ℕ
crc_line stands computed =
    concat (codes "drmcast: fac crc stands " ∷ encode_lower stands ∷ codes " computed " ∷ encode_lower computed ∷ codes "\n" ∷ [])
