-- A schedule with live streams over a group of links.
use Rattle.std.specs.Prelude.{ℕ, ◌≡◌, ◌<◌, ◌≤◌, ◌⊎◌, Bool, not, List, Result, Ok, Err}
use Rattle.drm_links.specs.Known.{Known}
use Rattle.drm_links.specs.Source.{Input}
use Rattle.drm_links.specs.History.{History}
use Rattle.drm_links.specs.Calls.{NoneUp}
use Rattle.cmd_faults.specs.declared.fault.Fault.{Fault}
use Rattle.drm_schedule.specs.declared.live.Live.{Live}
use Rattle.drm_schedule.specs.declared.plan.Plan.{Plan}
use Rattle.drm_server.specs.declared.stretch.Stretch.{Stretch}
use Rattle.drm_server.specs.Stretch.{first_in, frames_in}
use Rattle.drm_server.specs.Serving.{IsOneUp, ServesFrames}
use Rattle.live_server.specs.Feeding.{HasMade, BreaksIn}

-- Frames of the stretch were sent up to its last one, or to one in which the last link failed: they are n, and `whole` says whether each had its
-- piece. Or a read failed within the piece of the frame behind n others, which were sent.
abbrev pub ServedLive : Live → Plan → Stretch → ℕ → Result Bool Fault → Known Input → Known Input → List Bool → List Bool → Known History → Known History → Type 0
ServedLive live plan stretch pace (Ok whole) input input' up up' before after =
    (n : ℕ) × (n ≤ frames_in stretch plan) × ((n ≡ frames_in stretch plan) ⊎ NoneUp up')
    × HasMade live plan (first_in stretch) n (not whole) input input' (λ p. ServesFrames p (first_in stretch) pace n up up' before after)
ServedLive live plan stretch pace (Err fault) input input' up up' before after =
    (n : ℕ) × (n < frames_in stretch plan) × IsOneUp up'
    × BreaksIn live plan (first_in stretch) n input input' (λ p. ServesFrames p (first_in stretch) pace n up up' before after)
