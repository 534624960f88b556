-- Which bytes of a chunk are erased.
use Rattle.std.specs.Prelude.{ℕ, zero, suc, ◌+◌, ◌-◌, ◌%◌, nat_lt, Bool, if◌then◌else◌, List, [], ◌∷◌, ◌++◌}

-- where byte j of a chunk of k bytes with its parity stands in the code word, which has zeros between both
unfoldable pub position : ℕ → ℕ → ℕ
position k j = if nat_lt j k then j else 207 + (j - k)

-- the positions of those of n bytes of the coded chunks from `start` on that belong to a fragment that isn't kept
unfoldable pub erased_positions : ℕ → (ℕ → Bool) → ℕ → ℕ → ℕ → List ℕ
erased_positions count kept start k zero = []
erased_positions count kept start k (suc n) =
    erased_positions count kept start k n ++ (if kept ((start + n) % count) then [] else position k n ∷ [])
