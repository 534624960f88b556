-- Which fragments are enough to make a packet again (TS 102 821).
use Rattle.std.specs.Prelude.{ℕ, zero, suc, ◌+◌, ◌*◌, ◌%◌, nat_le, Bool, true, ◌&&◌, if◌then◌else◌, Option, Some, None}
use Rattle.dcp_pft.specs.declared.shape.Rs.{Rs}
use Rattle.dcp_pft.specs.declared.shape.Shape.{Shape}
use Rattle.dcp_pft.specs.Cutting.{chunks_of}

-- how many of the indices below n are in the set
unfoldable pub size : ℕ → (ℕ → Bool) → ℕ
size zero kept = 0
size (suc n) kept = size n kept + (if kept n then 1 else 0)

-- all indices below n are in the set
unfoldable pub has_all : ℕ → (ℕ → Bool) → Bool
has_all zero kept = true
has_all (suc n) kept = kept n && has_all n kept

-- Of n places of the coded chunks from `start` on, so many belong to a fragment that isn't kept: a place belongs to the
-- fragment of its residue modulo the count.
unfoldable pub erased : ℕ → (ℕ → Bool) → ℕ → ℕ → ℕ
erased count kept start zero = 0
erased count kept start (suc n) = erased count kept start n + (if kept ((start + n) % count) then 0 else 1)

-- each of the first n chunks, which has so many bytes with its parity, has at most 48 erased places
unfoldable pub chunks_stand : ℕ → (ℕ → Bool) → ℕ → ℕ → Bool
chunks_stand count kept bytes zero = true
chunks_stand count kept bytes (suc n) =
    nat_le (erased count kept (n * bytes) bytes) 48 && chunks_stand count kept bytes n

-- The kept fragments are enough: of each chunk at most 48 places are erased. Without a code all are needed.
unfoldable pub is_recoverable : Shape → (ℕ → Bool) → Bool
is_recoverable shape kept = of shape.rs
  where
    of : Option Rs → Bool
    of None = has_all shape.count kept
    of (Some rs) = chunks_stand shape.count kept (rs.k + 48) (chunks_of shape)
