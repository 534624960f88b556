-- The front of an input.
use Rattle.std.specs.Prelude.{ℕ, ◌≡◌, ◌+◌, ◌<◌, ◌≤◌, List, length, take, drop, min}
use Rattle.drm_links.specs.Known.{Known, KnownThrough}
use Rattle.drm_links.specs.Source.{Input, InputsBytes}

-- it was asked n times at the most
abbrev pub AskedAtMost : ℕ → Input → Input → Type 0
AskedAtMost n before after = after.calls ≤ before.calls + n

-- where a source tells at the end, it told before, and was asked n times at the most
abbrev pub AsksAtMost : ℕ → Known Input → Known Input → Type 0
AsksAtMost n before after = KnownThrough before after (AskedAtMost n)

-- The head is the first ten bytes of the input, or all of them, and no other byte was taken. After its last byte the
-- source is asked once at the most, and after a tenth byte not at all.
pub record ReadsHead (head : List ℕ) (before after : Known Input) : Type 0 where
  pub bytes : InputsBytes before after (λ left rest. (head ≡ take 10 left) × (rest ≡ drop 10 left))
  pub asks : AsksAtMost (min 10 (length head + 1)) before after
  pub short : length head ≤ 10

-- A read failed, after fewer than ten bytes were taken.
pub record FailsWithin (taken : ℕ) (before after : Known Input) : Type 0 where
  pub few : taken < 10
  pub bytes : InputsBytes before after (λ left rest. rest ≡ drop taken left)
  pub asks : AsksAtMost (taken + 1) before after
