-- Chunks of few bytes, found by those that are known.
use Rattle.std.specs.Prelude.{ℕ, ◌≡◌, ◌+◌, ◌%◌, ◌<◌, ◌≤◌, Bool, true, List, length, slice_index}
use Rattle.rs_patterns.specs.Marks.{is_marked}
use Rattle.dcp_collect.specs.declared.short_chunks.KnownBytes.{KnownBytes}

-- so many places of a chunk of k bytes with its parity
pub record HasPlaces (k : ℕ) (known : KnownBytes) : Type 0 where
  pub room : length known.places ≡ 63
  pub few : known.len ≤ 63
  pub within : (i : ℕ) → i < known.len → slice_index known.places i < k + 48

-- and among them each byte of a kept fragment, where the chunk begins with this one
pub record IsKnown (count k : ℕ) (marks : List Bool) (known : KnownBytes) : Type 0 where
  pub are : HasPlaces k known
  pub each : (j : ℕ) → j < k + 48 → is_marked marks ((known.first + j) % count) ≡ true
      → (i : ℕ) × (i < known.len) × (slice_index known.places i ≡ j)

-- the chunks of a packet with these marks have few bytes
pub record IsKnownOfFew (count k : ℕ) (marks : List Bool) (known : KnownBytes) : Type 0 where
  pub few : k ≤ 15
  pub is_known : IsKnown count k marks known
