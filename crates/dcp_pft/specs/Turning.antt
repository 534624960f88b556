-- The coded bytes of a packet, laid out in rows of one byte a fragment, and turned into columns of one fragment's bytes.
use Rattle.std.specs.Prelude.{ℕ, ◌≡◌, ◌+◌, ◌*◌, ◌<◌, List, None, Some}
use Rattle.dcp_pft.specs.declared.shape.Rs.{Rs}
use Rattle.dcp_pft.specs.declared.shape.Shape.{Shape}
use Rattle.dcp_pft.specs.Coding.{byte_or_zero, every}
use Rattle.dcp_pft.specs.Head.{PftFragment}

-- of each of so many rows of `count` bytes the sixteen from `first` on, one row after another
abbrev pub TakesRows : ℕ → ℕ → ℕ → List ℕ → List ℕ → Type 0
TakesRows count first rows coded taken =
    (p f : ℕ) → p < rows → f < 16 → byte_or_zero taken (16 * p + f) ≡ byte_or_zero coded (p * count + (first + f))

-- first so many bytes at even places, then those at odd ones
abbrev pub HalvesBytes : ℕ → List ℕ → List ℕ → Type 0
HalvesBytes half from into =
    (n : ℕ) → n < half → (byte_or_zero into n ≡ byte_or_zero from (2 * n)) × (byte_or_zero into (half + n) ≡ byte_or_zero from (2 * n + 1))

-- so many rows of sixteen bytes, turned into sixteen columns
abbrev pub TurnsRows : ℕ → List ℕ → List ℕ → Type 0
TurnsRows height from into =
    (f p : ℕ) → f < 16 → p < height → byte_or_zero into (f * height + p) ≡ byte_or_zero from (16 * p + f)

-- sixteen columns of this height, of which each begins with what one fragment carries, from fragment `first` on
abbrev pub HoldsColumns : ℕ → ℕ → ℕ → ℕ → List ℕ → List ℕ → Type 0
HoldsColumns count first piece height coded columns =
    (f p : ℕ) → f < 16 → p < piece → byte_or_zero columns (f * height + p) ≡ byte_or_zero coded (p * count + (first + f))

-- a fragment with a code and this payload
abbrev pub with_payload : Shape → Rs → ℕ → ℕ → List ℕ → PftFragment
with_payload shape rs seq i payload = record { seq = seq; index = i; count = shape.count; rs = Some rs; addr = None; payload = payload }

-- fragment i of a packet whose coded bytes are these
abbrev pub laid_fragment : Shape → Rs → ℕ → List ℕ → ℕ → PftFragment
laid_fragment shape rs seq coded i = with_payload shape rs seq i (every shape.count i shape.piece coded)
