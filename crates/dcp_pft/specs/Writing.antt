-- What a written fragment does to the bytes that it is written over.
use Rattle.std.specs.Prelude.{ℕ, ◌≡◌, ◌+◌, ◌*◌, ◌≤◌, List, ◌++◌, take, drop, length}
use Rattle.std.specs.Int.{w16, to_be_bytes}
use Rattle.drm_bits.specs.Bits.{IsBytes}
use Rattle.drm_bits.specs.Crc.{IsCheckOf}
use Rattle.dcp_pft.specs.declared.shape.Shape.{Shape}
use Rattle.dcp_pft.specs.Limits.{most_fragment}
use Rattle.dcp_pft.specs.Head.{PftFragment, SpellsHead}
use Rattle.dcp_pft.specs.Carrying.{fragment_size}

-- these bytes with their check value are written to the front
pub record PutsHead (head old new : List ℕ) : Type 0 where
  pub check : ℕ
  pub checks : IsCheckOf head check
  pub bytes : IsBytes (head ++ to_be_bytes w16 check)
  pub put : new ≡ head ++ to_be_bytes w16 check ++ drop (length head + 2) old

-- a fragment of so many bytes is written to the front
pub record WritesFragment (f : PftFragment) (size : ℕ) (old new : List ℕ) : Type 0 where
  pub small : size ≤ most_fragment
  pub spells : SpellsHead f (take size new)
  pub bytes : IsBytes (take size new)
  pub behind : drop size new ≡ drop size old

-- The bytes at the place of fragment i, where the fragments of a packet of so many bytes stand one after another: all but the last, which
-- without a code may be shorter, are as long as the first.
abbrev pub fragment_at : Shape → ℕ → ℕ → List ℕ → List ℕ
fragment_at shape len i bytes = take (fragment_size shape len i) (drop (i * fragment_size shape len 0) bytes)
