-- The names of the items of a logical frame that are read (TS 102 820).
use Rattle.std.specs.Prelude.{ℕ, ◌+◌, List, [], ◌∷◌, codes, slice_index_or}

-- in the order in which they are written
abbrev pub names : List (List ℕ)
names =
    codes "*ptr" ∷ codes "dlfc" ∷ codes "fac_" ∷ codes "sdci" ∷ codes "robm" ∷ codes "sdc_" ∷ codes "str0" ∷ codes "str1" ∷ codes "str2" ∷ codes "str3" ∷ []

-- the name at a place of that order
abbrev pub name_at : ℕ → List ℕ
name_at k = slice_index_or names k []

-- the places
abbrev pub ptr : ℕ
ptr = 0

abbrev pub dlfc : ℕ
dlfc = 1

abbrev pub fac_ : ℕ
fac_ = 2

abbrev pub sdci : ℕ
sdci = 3

abbrev pub robm : ℕ
robm = 4

abbrev pub sdc_ : ℕ
sdc_ = 5

-- that of the item of stream k
abbrev pub str : ℕ → ℕ
str k = 6 + k
