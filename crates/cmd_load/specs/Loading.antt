-- What is read from a shelf, load by load.
use Rattle.std.specs.Prelude.{ℕ, ◌≡◌, ◌+◌, ◌≤◌, ◌⊎◌, List, [], ◌∷◌, ◌++◌, length, Result, Ok, Err}
use Rattle.drm_schedule.specs.declared.invalid.Reason.TheVariants as reasons
use Rattle.drm_links.specs.Known.{Known}
use Rattle.drm_links.specs.declared.shelf.Loaded.{Loaded}
use Rattle.drm_links.specs.declared.shelf.Loaded.TheVariants as loads
use Rattle.drm_links.specs.Shelf.{Files, ShelfSupplies, load_of, after_loads}
use Rattle.cmd_load.specs.declared.loading.ScheduleFault.{ScheduleFault}
use Rattle.cmd_load.specs.declared.loading.ScheduleFault.TheVariants.{NoMemory, Line, Read}

-- what came of the loads, and what the shelf tells after them
pub record ShelfStep (T : Type 0) : Type 0 where
  pub outcome : Result T ScheduleFault
  pub contents : Files

-- what comes from a shelf that tells this
abbrev pub ShelfReading : Type 0 → Type 0
ShelfReading T = Files → ShelfStep T

-- without a load
abbrev pub given : {T : Type 0} → Result T ScheduleFault → ShelfReading T
given outcome contents = record { outcome = outcome; contents = contents }

abbrev pub after : {A B : Type 0} → Result A ScheduleFault → (A → ShelfReading B) → ShelfReading B
after (Ok x) next contents = next x contents
after (Err fault) next contents = record { outcome = Err fault; contents = contents }

-- one reading after another, up to a fault
infixl 10 ◌>>=◌
abbrev pub ◌>>=◌ : {A B : Type 0} → ShelfReading A → (A → ShelfReading B) → ShelfReading B
(reading >>= next) contents = after (reading contents).outcome next (reading contents).contents

-- the bytes of a load, or the fault that it is in this line
abbrev pub bytes_or_fault : ℕ → Loaded → Result (List ℕ) ScheduleFault
bytes_or_fault line (loads.Bytes bytes) = Ok bytes
bytes_or_fault line loads.TooLong = Err (Line line reasons.TooLong)
bytes_or_fault line loads.Failed = Err Read
bytes_or_fault line loads.NoMemory = Err NoMemory

-- one load, which this line asks for
abbrev pub load_for : ℕ → List ℕ → ℕ → ShelfReading (List ℕ)
load_for line name limit contents = record { outcome = bytes_or_fault line (load_of contents name limit); contents = after_loads (name ∷ []) contents }

-- Files of these names were loaded, the first of those that are loaded up to `last`, and behind them at most one for which memory
-- ran out. The shelf tells nothing else anew.
pub record MadeSome (last before after : Files) : Type 0 where
  pub names : List (List ℕ)
  pub lost : ℕ
  pub one : lost ≤ 1
  pub contents : after ≡ record before { loads = before.loads + length names + lost; names = before.names ++ names }
  pub few : after.loads ≤ last.loads
  pub later : List (List ℕ)
  pub first : last.names ≡ after.names ++ later

-- Where a shelf tells, this came of it by this reading, or memory ran out; then no more loads were made than the reading makes.
abbrev pub ReadBy : {T : Type 0} → ShelfReading T → Result T ScheduleFault → Known Files → Known Files → Type 0
ReadBy reading outcome before after =
    ShelfSupplies before after (λ x y. (reading x ≡ record { outcome = outcome; contents = y }) ⊎ ((outcome ≡ Err NoMemory) × MadeSome (reading x).contents x y))

-- it is this, unless memory ran out
abbrev pub GivesUnlessMemory : {T : Type 0} → Result T ScheduleFault → Result T ScheduleFault → Type 0
GivesUnlessMemory outcome is = (outcome ≡ Err NoMemory) ⊎ (outcome ≡ is)
