-- The headline over a run of the program that ended with a report.
use Rattle.std.specs.Prelude.{ℕ, Bool, List, None, Some, Ok}
use Rattle.drm_links.specs.Known.{Known}
use Rattle.drm_links.specs.Shelf.{Files}
use Rattle.drm_links.specs.Source.{InputsBytes}
use Rattle.drm_links.specs.Sink.{Output}
use Rattle.drm_links.specs.Dock.{DockKnownThrough}
use Rattle.drm_schedule.specs.declared.plan.Plan.{Plan}
use Rattle.drm_schedule.specs.Valid.{IsSchedule}
use Rattle.plan_script.specs.declared.delivery.Delivery.{Delivery}
use Rattle.cmd_load.specs.Loading.{ReadBy}
use Rattle.cmd_load.specs.Schedule.{schedule_named}
use Rattle.cmd_load.specs.Scripts.{script_named}
use Rattle.cmd_receive.specs.Receive.{AreReports, WritesReports}
use Rattle.cmd_receive.specs.Capture.{WritesReport}
use Rattle.cmd_air.specs.Air.{AreAired}
use Rattle.drm_top.specs.Outside.{Outside}
use Rattle.recv_reading.specs.Values.{receive_options}
use Rattle.drm_words.specs.declared.request.Request.{Request}
use Rattle.drm_words.specs.declared.request.Request.TheVariants.{Receive, Air}

-- The files are a schedule and a script for it, and the report of each feed was written.
pub record WroteFeeds {S O : Type 0} (name script : List ℕ) (window : ℕ) (clean : Bool)
    (known : S → Known Files) (shelf shelf' : S) (out_known : O → Known Output) (out out' : O) : Type 0 where
  pub plan : Plan
  pub valid : IsSchedule plan
  pub between : S
  pub schedule : ReadBy (schedule_named name) (Ok plan) (known shelf) (known between)
  pub feeds : List (List Delivery)
  pub deliveries : ReadBy (script_named plan script) (Ok feeds) (known between) (known shelf')
  pub wrote : WritesReports (AreAired plan window feeds) (Ok clean) out_known out out'

-- The headline where a command ended with a report: what was written is the report of what was ahead of the link at each address, of what the capture brings, or of what each
-- feed delivers. Of each report `HeadlineOf` holds: whatever delivery of whatever valid schedule came, it says what that calls for.
abbrev pub HeadlineOfRun : {S I O E D : Type 0} → Request → Bool → Outside S I O E D → Type 0
HeadlineOfRun (Receive (Some addresses) window reach first frames idle limit) clean o =
    DockKnownThrough (o.dock.known o.dock.before) (o.dock.known o.dock.after) (λ contents.
    WritesReports (AreReports (receive_options window reach first frames idle limit) contents addresses) (Ok clean) o.out.known o.out.before o.out.after)
HeadlineOfRun (Receive None window reach first frames idle limit) clean o =
    InputsBytes (o.input.known o.input.before) (o.input.known o.input.after) (λ left _.
    WritesReport (receive_options window reach first frames idle limit) left clean o.out.known o.out.before o.out.after)
HeadlineOfRun (Air name script window) clean o =
    WroteFeeds name script window clean o.shelf.known o.shelf.before o.shelf.after o.out.known o.out.before o.out.after
HeadlineOfRun _ clean o = Unit {0}
