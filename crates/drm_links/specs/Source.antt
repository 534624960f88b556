-- What a source tells.
use Rattle.std.specs.Prelude.{ℕ, ◌≡◌, ◌<◌, ◌≤◌, ◌+◌, List, [], ◌++◌, length, take}
use Rattle.drm_links.specs.Known.{Known, KnownThrough, last_count}
use Rattle.drm_links.specs.declared.source.ReadOut.{ReadOut}
use Rattle.drm_links.specs.declared.source.ReadOut.TheVariants.{Got, End, Failed}

-- the bytes that are still to be read, and the number of calls so far
pub record Input : Type 0 where
  pub left : List ℕ
  pub calls : ℕ

-- At least one byte was read, and no more than the buffer holds.
abbrev pub ReadsSome : ReadOut → List ℕ → Type 0
ReadsSome (Got n) buf = (0 < n) × (n ≤ length buf)
ReadsSome End buf = Unit {0}
ReadsSome Failed buf = Unit {0}

-- The bytes read are the next ones left; `End` comes exactly where none is left; a failed call takes nothing.
abbrev pub SourceTakes : ReadOut → List ℕ → Input → Input → Type 0
SourceTakes (Got n) buf before after = before.left ≡ take n buf ++ after.left
SourceTakes End buf before after = (before.left ≡ []) × (after.left ≡ [])
SourceTakes Failed buf before after = after.left ≡ before.left

-- P holds of the bytes that were left and that are left
abbrev pub LeftBy : (List ℕ → List ℕ → Type 0) → Input → Input → Type 0
LeftBy P before after = P before.left after.left

-- Each call took at least one byte, but for those at the end of the bytes and those that failed. How many failed is the difference
-- of the counts of faults, while these aren't at their last value.
pub record FewReads (faults faults' : ℕ) (before after : Input) : Type 0 where
  pub less : length after.left ≤ length before.left
  pub rises : faults' < last_count → faults ≤ faults'
  pub few : faults' < last_count → 0 < length after.left
      → after.calls + faults + length after.left ≤ before.calls + faults' + length before.left

-- Where a source tells at the end, it told before, and P holds of the bytes that were left and that are left; it was called no more
-- often than bytes were taken, but for failed calls and those at its end.
abbrev pub InputsBytes : Known Input → Known Input → (List ℕ → List ℕ → Type 0) → Type 0
InputsBytes before after P = KnownThrough before after (λ x y. LeftBy P x y × FewReads before.faults after.faults x y)
