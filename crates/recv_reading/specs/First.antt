-- The sequence number of number 0, as a collector knows it.
use Rattle.std.specs.Prelude.{ℕ, ◌≡◌, [], None, IfSome, unwrap_or}
use Rattle.dcp_collect.specs.CollectorState.{CollectorState}

-- Number 0 may have this sequence number: it is known, or nothing has told it yet.
abbrev pub MayBeFirst : CollectorState → ℕ → Type 0
MayBeFirst c first = IfSome c.first (λ n. n ≡ first)

-- Nothing is kept before the first sequence number is known.
abbrev pub KnowsFirst : CollectorState → Type 0
KnowsFirst c = (c.first ≡ None) → c.kept ≡ []

-- the sequence number of number 0 of these: 0 where none told it
abbrev pub first_of : CollectorState → ℕ
first_of c = unwrap_or c.first 0

-- What is known of it stays.
abbrev pub KeepsFirst : CollectorState → CollectorState → Type 0
KeepsFirst c d = (first : ℕ) → MayBeFirst d first → MayBeFirst c first
