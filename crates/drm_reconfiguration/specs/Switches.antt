-- Where switches and resumptions stand, over the whole list of what was seen: an item is a frame, or none.
use Rattle.std.specs.Prelude.{ℕ, ◌≡◌, ◌≢◌, ◌+◌, ◌-◌, ◌*◌, ◌<◌, ◌≤◌, List, slice_get, Option, Some, None}
use Rattle.drm_reconfiguration.specs.declared.seen.Seen.{Seen}
use Rattle.drm_reconfiguration.specs.declared.tracker.Before.{Before}
use Rattle.drm_reconfiguration.specs.declared.tracker.Before.TheVariants.{Switch, Resumed}

-- item q is a frame, seen as this
abbrev pub IsFrame : List (Option Seen) → ℕ → Seen → Type 0
IsFrame items q seen = slice_get items q ≡ Some (Some seen)

-- frame q names frame n by its index above 0 (a position is at most 2, so nothing is cut off at 0)
abbrev pub IndexNames : List (Option Seen) → ℕ → ℕ → Type 0
IndexNames items q n =
    (seen : Seen) × IsFrame items q seen × (0 < seen.index) × (n ≡ (q + 3 * seen.index) - seen.position)

-- some frame before item k names a frame, and the last such frame names n
pub record IsNamedLast (items : List (Option Seen)) (k n : ℕ) : Type 0 where
  pub by : ℕ
  pub before : by < k
  pub names : IndexNames items by n
  pub last : (q other : ℕ) → by < q → q < k → ¬ IndexNames items q other

-- a switch stands before item f: the last frame before it that names one names f
abbrev pub SwitchesAt : List (Option Seen) → ℕ → Type 0
SwitchesAt items f = IsNamedLast items f f

-- frame r, seen as this, is the last frame before item k
pub record IsLastFrame (items : List (Option Seen)) (k r : ℕ) (seen : Seen) : Type 0 where
  pub before : r < k
  pub frame : IsFrame items r seen
  pub last : (q : ℕ) (other : Seen) → r < q → q < k → ¬ IsFrame items q other

-- a resumption stands before frame p: the last frame r before it has another signature, and no switch stands before an
-- item from r + 1 to p
pub record ResumesAt (items : List (Option Seen)) (p : ℕ) : Type 0 where
  pub r : ℕ
  pub old : Seen
  pub new : Seen
  pub last : IsLastFrame items p r old
  pub frame : IsFrame items p new
  pub differ : old.signature ≢ new.signature
  pub quiet : (f : ℕ) → r < f → f ≤ p → ¬ SwitchesAt items f

-- what stands before item k
abbrev pub StandsBefore : List (Option Seen) → ℕ → Option Before → Type 0
StandsBefore items k None = (¬ SwitchesAt items k) × (¬ ResumesAt items k)
StandsBefore items k (Some (Switch f)) = (f ≡ k) × SwitchesAt items k
StandsBefore items k (Some (Resumed p)) = (p ≡ k) × ResumesAt items k
