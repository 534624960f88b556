-- What is known of an object of the outside: its count of faults, and what it tells of itself.
use Rattle.std.specs.Prelude.{ℕ, ◌≡◌, ◌+◌, ◌-◌, ◌^◌, ◌≤◌, Option, None, Some, IsNone, MatchOption, min, nat_le, if◌then◌else◌}

-- How often a call of it has failed, up to the last value of a u64, and what it tells, where it tells anything.
pub record Known (T : Type 0) : Type 0 where
  pub faults : ℕ
  pub contents : Option T

-- ---- counts

-- the last value of a count of a u64
abbrev pub last_count : ℕ
last_count = 2 ^ 64 - 1

-- a count of a u64 after one more, which stays at its last value
abbrev pub one_more : ℕ → ℕ
one_more count = min (count + 1) (2 ^ 64 - 1)

-- A count rose by one where this happened, and else it stayed.
pub record RisesWhere (old new : ℕ) (Happened : Type 0) : Type 0 where
  pub once : Happened → new ≡ one_more old
  pub same : (Happened → ⊥) → new ≡ old

-- One call of the object failed.
abbrev pub HasFailed : {T : Type 0} → Known T → Known T → Type 0
HasFailed before after = after.faults ≡ one_more before.faults

-- One call of the object failed where this happened, and else none did.
abbrev pub HasCause : {T : Type 0} → Known T → Known T → Type 0 → Type 0
HasCause before after Failed = RisesWhere before.faults after.faults Failed

-- ---- over one call

-- One more call: it tells exactly where it told before and the raised number of calls is at most 2 ^ 62.
abbrev pub CountsOneCall : {T : Type 0} → (T → ℕ) → Option T → Option T → Type 0
CountsOneCall calls None new = IsNone new
CountsOneCall calls (Some before) new =
    MatchOption new (2 ^ 62 ≤ calls before) (λ after. (calls after ≡ calls before + 1) × (calls after ≤ 2 ^ 62))

abbrev pub CountsCall : {T : Type 0} → (T → ℕ) → Known T → Known T → Type 0
CountsCall calls before after = CountsOneCall calls before.contents after.contents

-- P holds of what is told before and after, where both are told.
abbrev pub IfBoth : {T : Type 0} → Option T → Option T → (T → T → Type 0) → Type 0
IfBoth (Some before) (Some after) P = P before after
IfBoth before after P = Unit {0}

abbrev pub IfBothKnown : {T : Type 0} → Known T → Known T → (T → T → Type 0) → Type 0
IfBothKnown before after P = IfBoth before.contents after.contents P

-- ---- over many calls

-- Where it tells at the end, it told before, and P holds of what it told then and tells now.
abbrev pub Throughout : {T : Type 0} → Option T → Option T → (T → T → Type 0) → Type 0
Throughout before None P = Unit {0}
Throughout None (Some after) P = ⊥
Throughout (Some before) (Some after) P = P before after

abbrev pub KnownThrough : {T : Type 0} → Known T → Known T → (T → T → Type 0) → Type 0
KnownThrough before after P = Throughout before.contents after.contents P

-- ---- the forms in memory

-- what a form in memory tells: its contents for its first 2 ^ 62 calls, and nothing afterwards
abbrev pub contents_for : {T : Type 0} → ℕ → T → Option T
contents_for calls contents = if nat_le calls (2 ^ 62) then Some contents else None
