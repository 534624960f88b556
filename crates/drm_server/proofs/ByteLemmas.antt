-- Parts of bytes are bytes.
use Rattle.std.proofs.Common.{◌+◌, ℕ, inl, inr, List, ◌++◌, length, take, drop, subst, arith}
use Rattle.std.proofs.lemmas.Bool.{cases_lt}
use Rattle.std.proofs.lemmas.List.{get_or-take, get_or-drop, get_or_past, length-take}
use Rattle.std.proofs.Math.Seq.{take-append_seam, drop-append_seam}
use Rattle.drm_bits.specs.Bits.{IsBytes}

pub bytes_drop : (n : ℕ) (bytes : List ℕ) → IsBytes bytes → IsBytes (drop n bytes)
bytes_drop n bytes h i = rw get_or-drop (h (n + i))

pub bytes_take : (n : ℕ) (bytes : List ℕ) → IsBytes bytes → IsBytes (take n bytes)
bytes_take n bytes h i =
    elim (cases_lt i n) [
      | inl lt ↦ rw (get_or-take n bytes i 0 lt) (h i)
      | inr le ↦ rw (get_or_past (take n bytes) i 0 (omega (arith, length-take n bytes))) (omega arith)
    ]

pub bytes_before : (front rest : List ℕ) → IsBytes (front ++ rest) → IsBytes front
bytes_before front rest h = subst IsBytes (take-append_seam front rest) (bytes_take (length front) (front ++ rest) h)

pub bytes_behind : (front rest : List ℕ) → IsBytes (front ++ rest) → IsBytes rest
bytes_behind front rest h = subst IsBytes (drop-append_seam front rest) (bytes_drop (length front) (front ++ rest) h)
