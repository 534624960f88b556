-- The room that a packet takes. A packet that came whole may be as long as what the fragments of one carry together.
use Rattle.std.specs.Prelude.{ℕ, ◌/◌}
use Rattle.dcp_pft.specs.Limits.{most_carried}

-- the most bytes of a packet, with its parity
abbrev pub most_bytes : ℕ
most_bytes = most_carried

-- its most chunks: each has a byte at least, and 48 of parity
abbrev pub most_chunks : ℕ
most_chunks = most_bytes / 49
