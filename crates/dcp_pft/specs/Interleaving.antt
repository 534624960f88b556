-- A payload that is written piece by piece, as the coded chunks come.
use Rattle.std.specs.Prelude.{ℕ, ◌-◌, List, ◌++◌, take, length}
use Rattle.dcp_pft.specs.declared.interleave.Next.{Next}
use Rattle.dcp_pft.specs.Coding.{every}

-- the payload that there is in the end if these coded bytes come now: what is written, and every count-th of them
abbrev pub payload_with : ℕ → Next → List ℕ → List ℕ → List ℕ
payload_with count next payload coming = take next.written payload ++ every count next.skip (length payload - next.written) coming
