-- A frame that is loaded with what comes for it.
use Rattle.std.specs.Prelude.{ℕ, ◌≡◌, ◌+◌, Bool, true, false, List, Result, Ok}
use Rattle.drm_links.specs.Known.{Known}
use Rattle.drm_links.specs.Source.{Input}
use Rattle.cmd_faults.specs.declared.fault.Fault.{Fault}
use Rattle.drm_schedule.specs.declared.live.Live.{Live}
use Rattle.drm_schedule.specs.Live.{is_any}
use Rattle.drm_server.specs.ServerState.{ServerState, HasFrame}
use Rattle.live_server.specs.Feeding.{HasRead, AreTaken, IsOneOf, HasMade, BreaksIn}

-- Where no stream is live nothing is read, and no fault comes.
abbrev pub AsksForNothing : {I : Type 0} → Live → I → I → Result Bool Fault → Type 0
AsksForNothing live input input' result = is_any live ≡ false → (input' ≡ input) × (result ≡ Ok true)

-- Where no stream is live input is left alone, and no frame lacks its piece.
abbrev pub IsFed : {I : Type 0} → Live → I → I → Result Bool Fault → Type 0
IsFed live input input' result = is_any live ≡ false → (input' ≡ input) × ((whole : Bool) → result ≡ Ok whole → whole ≡ true)

-- Where these bytes came for n frames and frame t is the next one, it is loaded as the frame of each schedule that begins with these bytes and
-- those that came for it.
abbrev pub LoadsNext : Live → ℕ → Bool → Bool → ServerState → ServerState → Known Input → Known Input → Type 0
LoadsNext live t ended ended' server server' input input' =
    (first n : ℕ) (start : Known Input) (bytes : List ℕ) → t ≡ first + n → HasRead ended bytes start input → AreTaken ended live server.base first (first + n) bytes
    → HasMade live server.base first (n + 1) ended' start input' (λ shown. IsOneOf ended live server.base first bytes shown × HasFrame server' shown)

-- a read fails within its piece
abbrev pub LoadBreaks : Live → ℕ → Bool → ServerState → Known Input → Known Input → Type 0
LoadBreaks live t ended server input input' =
    (first n : ℕ) (start : Known Input) (bytes : List ℕ) → t ≡ first + n → HasRead ended bytes start input → AreTaken ended live server.base first (first + n) bytes
    → BreaksIn live server.base first n start input' (IsOneOf ended live server.base first bytes)
