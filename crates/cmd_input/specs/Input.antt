-- The front of an input.
use Rattle.std.specs.Prelude.{ℕ, ◌≡◌, ◌<◌, ◌≤◌, List, [], ◌++◌, length}
use Rattle.drm_links.specs.Known.{Known}
use Rattle.drm_links.specs.Source.{Input, InputsBytes}

-- These bytes are the input, or as many of its first bytes as there is room for.
pub record ReadsFirstBytes (room : ℕ) (bytes : List ℕ) (before after : Known Input) : Type 0 where
  pub front : InputsBytes before after (λ left rest. left ≡ bytes ++ rest)
  pub all : length bytes < room → InputsBytes before after (λ left rest. rest ≡ [])
  pub few : length bytes ≤ room

-- A read failed behind fewer bytes than there is room for.
abbrev pub FailsBehind : ℕ → Known Input → Known Input → Type 0
FailsBehind room before after =
    (bytes : List ℕ) × (length bytes < room) × InputsBytes before after (λ left rest. left ≡ bytes ++ rest)
