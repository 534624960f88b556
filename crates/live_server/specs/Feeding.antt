-- What a schedule with live streams takes of input, frame by frame.
use Rattle.std.specs.Prelude.{ℕ, ◌≡◌, ◌+◌, ◌<◌, ◌≤◌, Bool, true, false, List, [], ◌++◌, length}
use Rattle.drm_links.specs.Known.{Known}
use Rattle.drm_links.specs.Source.{Input, InputsBytes}
use Rattle.drm_schedule.specs.declared.live.Live.{Live}
use Rattle.drm_schedule.specs.declared.plan.Plan.{Plan}
use Rattle.live_streams.specs.Live.{live_schedule}
use Rattle.live_streams.specs.Input.{bytes_before, pieces_of}

-- the schedule whose frames from `first` on have these bytes of input
abbrev pub fed : Live → Plan → ℕ → List ℕ → Plan
fed live plan first bytes = live_schedule live (pieces_of live plan first bytes) plan

-- The frames from `first` on that are before frame t took these bytes of input: each its piece, where input hasn't ended; and too few
-- for all of them where it has.
abbrev pub AreTaken : Bool → Live → Plan → ℕ → ℕ → List ℕ → Type 0
AreTaken false live plan first t bytes = length bytes ≡ bytes_before live plan first t
AreTaken true live plan first t bytes = length bytes < bytes_before live plan first t

-- These bytes were read of input, and where it has ended nothing is left.
pub record HasRead (ended : Bool) (bytes : List ℕ) (before after : Known Input) : Type 0 where
  pub read : InputsBytes before after (λ left rest. left ≡ bytes ++ rest)
  pub all : ended ≡ true → InputsBytes before after (λ left rest. rest ≡ [])

-- A read failed within the piece of frame t: those before it have theirs.
pub record BreaksOff (live : Live) (plan : Plan) (first t : ℕ) (bytes : List ℕ) : Type 0 where
  pub enough : bytes_before live plan first t ≤ length bytes
  pub short : length bytes < bytes_before live plan first (t + 1)

-- What holds of each schedule that begins with these bytes of input, whatever input has behind them; where it has ended nothing is.
abbrev pub OfEach : Bool → Live → Plan → ℕ → List ℕ → (Plan → Type 0) → Type 0
OfEach ended live plan first bytes P = (more : List ℕ) → (ended ≡ true → more ≡ []) → P (fed live plan first (bytes ++ more))

-- this is one of them
abbrev pub IsOneOf : Bool → Live → Plan → ℕ → List ℕ → Plan → Type 0
IsOneOf ended live plan first bytes shown = (more : List ℕ) × (ended ≡ true → more ≡ []) × (shown ≡ fed live plan first (bytes ++ more))

-- n frames from `first` on were made, whatever input has behind the bytes that came for them; of each schedule that these bytes make P holds.
pub record HasMade (live : Live) (plan : Plan) (first n : ℕ) (ended : Bool) (input input' : Known Input) (P : Plan → Type 0) : Type 0 where
  pub bytes : List ℕ
  pub read : HasRead ended bytes input input'
  pub taken : AreTaken ended live plan first (first + n) bytes
  pub made : OfEach ended live plan first bytes P

-- They were made, and then a read failed within the piece of the next one.
pub record BreaksIn (live : Live) (plan : Plan) (first n : ℕ) (input input' : Known Input) (P : Plan → Type 0) : Type 0 where
  pub bytes : List ℕ
  pub read : HasRead false bytes input input'
  pub breaks : BreaksOff live plan first (first + n) bytes
  pub made : OfEach false live plan first bytes P
