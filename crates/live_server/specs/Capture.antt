-- A schedule with live streams as a capture.
use Rattle.std.specs.Prelude.{ℕ, ◌≡◌, ◌+◌, ◌<◌, ◌⊎◌, Bool, not, List, Result, Ok, Err}
use Rattle.std.specs.List.{concat}
use Rattle.drm_links.specs.Known.{Known}
use Rattle.drm_links.specs.Source.{Input}
use Rattle.drm_links.specs.Sink.{Output, OutputsText}
use Rattle.cmd_faults.specs.declared.fault.Fault.{Fault}
use Rattle.cmd_faults.specs.declared.fault.Fault.TheVariants as faults
use Rattle.drm_schedule.specs.declared.live.Live.{Live}
use Rattle.drm_schedule.specs.declared.plan.Plan.{Plan}
use Rattle.drm_server.specs.declared.stretch.Stretch.{Stretch}
use Rattle.drm_server.specs.Stretch.{first_in, frames_in}
use Rattle.drm_server.specs.Capture.{IsCapture, IsPrefixOfCapture}
use Rattle.drm_server.specs.Datagrams.{AreOfFrames}
use Rattle.live_server.specs.Feeding.{HasMade, BreaksIn}

-- the datagrams of n frames from `first` on, one after another
abbrev pub AreWritten : Plan → ℕ → ℕ → List ℕ → Type 0
AreWritten plan first n text = (datagrams : List (List ℕ)) × AreOfFrames plan first n datagrams × (text ≡ concat datagrams)

-- they were written
abbrev pub WroteEach : ℕ → ℕ → Known Output → Known Output → Plan → Type 0
WroteEach first n out out' plan = OutputsText out out' (AreWritten plan first n)

-- All frames of the stretch were written, and `whole` says whether each had its piece. Or a read failed within the piece of one, and those
-- before it were written; or a write failed within one, for which its bytes had come.
abbrev pub WroteLive : Live → Plan → Stretch → Result Bool Fault → Known Input → Known Input → Known Output → Known Output → Type 0
WroteLive live plan stretch (Ok whole) input input' out out' =
    HasMade live plan (first_in stretch) (frames_in stretch plan) (not whole) input input' (λ p. OutputsText out out' (IsCapture p stretch))
WroteLive live plan stretch (Err fault) input input' out out' =
    ((fault ≡ faults.Read) × (n : ℕ) × (n < frames_in stretch plan) × BreaksIn live plan (first_in stretch) n input input' (WroteEach (first_in stretch) n out out'))
    ⊎ ((fault ≡ faults.Write) × (n : ℕ) × (n < frames_in stretch plan)
    × (ended : Bool) × HasMade live plan (first_in stretch) (n + 1) ended input input' (λ p. OutputsText out out' (IsPrefixOfCapture p stretch)))
