-- In which order pieces of input are read and frames are sent.
use Rattle.std.specs.Prelude.{ℕ, zero, suc, ◌≡◌, ◌+◌, ◌==◌, Bool, true, false, not, List, [], ◌∷◌, ◌++◌, option_map, Option, if◌then◌else◌, Result, Ok, Err}
use Rattle.cmd_faults.specs.declared.fault.Fault.{Fault}
use Rattle.drm_schedule.specs.declared.live.Live.{Live}
use Rattle.drm_schedule.specs.declared.plan.Plan.{Plan}
use Rattle.live_streams.specs.Live.{piece_at}

-- input was asked for so many bytes; or a frame was sent behind so many others
pub data FeedTurn : Type 0 where
  Asks : ℕ → FeedTurn
  Sends : ℕ → FeedTurn

-- what is told once these turns came, where they are told
abbrev pub with_turns : List FeedTurn → Option (List FeedTurn) → Option (List FeedTurn)
with_turns turns told = option_map (λ before. before ++ turns) told

-- for how many bytes input is asked where a frame asks for so many: for none once it has ended
abbrev pub wanted : Bool → ℕ → ℕ
wanted true len = 0
wanted false len = len

-- input is asked for so many bytes, if for any
abbrev pub asks : ℕ → List FeedTurn
asks len = if len == 0 then [] else Asks len ∷ []

-- The turns of n frames from frame `first` on, and whether input has ended with them: before each the piece that it asks for is read, unless
-- input had ended, and nothing else; then it is sent.
abbrev pub TurnsCome : Live → Plan → ℕ → ℕ → Bool → List FeedTurn → Type 0
TurnsCome live plan first zero ended turns = (ended ≡ false) × (turns ≡ [])
TurnsCome live plan first (suc n) ended turns =
    (had : Bool) × (before : List FeedTurn) × TurnsCome live plan first n had before × (had ≡ true → ended ≡ true)
    × (turns ≡ before ++ asks (wanted had (piece_at live plan (first + n))) ++ Sends n ∷ [])

-- What is told of a run: just these turns came; or, where a read failed, that one behind them.
abbrev pub TurnsTold : Live → Plan → ℕ → Result Bool Fault → Option (List FeedTurn) → Option (List FeedTurn) → Type 0
TurnsTold live plan first (Ok whole) told told' = (n : ℕ) × (turns : List FeedTurn) × TurnsCome live plan first n (not whole) turns × (told' ≡ with_turns turns told)
TurnsTold live plan first (Err fault) told told' =
    (n : ℕ) × (turns : List FeedTurn) × TurnsCome live plan first n false turns × (told' ≡ with_turns (turns ++ Asks (piece_at live plan (first + n)) ∷ []) told)
