-- The command `serve` with live streams: they take their bytes from input.
use Rattle.std.specs.Prelude.{ℕ, ◌≡◌, ◌+◌, ◌<◌, ◌⊎◌, not, Bool, true, List, [], ◌++◌, length, Result, Ok, Err}
use Rattle.drm_links.specs.Known.{HasFailed, Known, KnownThrough}
use Rattle.drm_links.specs.Shelf.{Files, ShelfSupplies}
use Rattle.drm_links.specs.Source.{Input}
use Rattle.drm_links.specs.Sink.{Output}
use Rattle.drm_links.specs.Dock.{DockContents}
use Rattle.drm_links.specs.declared.dock.Address.{Address}
use Rattle.drm_schedule.specs.declared.live.Live.{Live}
use Rattle.drm_schedule.specs.declared.plan.Plan.{Plan}
use Rattle.drm_schedule.specs.Valid.{IsSchedule}
use Rattle.drm_server.specs.declared.stretch.Stretch.{Stretch}
use Rattle.drm_server.specs.Stretch.{first_in, frames_in}
use Rattle.drm_links.specs.History.{GroupEvent}
use Rattle.drm_server.specs.Capture.{IsCapture, IsPrefixOfCapture}
use Rattle.cmd_load.specs.Loading.{ShelfReading, ReadBy, given, ◌>>=◌}
use Rattle.cmd_load.specs.Schedule.{schedule_named}
use Rattle.cmd_faults.specs.Fault.{done_of}
use Rattle.cmd_faults.specs.declared.fault.Fault.{Fault}
use Rattle.cmd_faults.specs.declared.fault.Fault.TheVariants as faults
use Rattle.live_server.specs.Feeding.{fed, AreTaken, HasRead, BreaksIn}
use Rattle.live_server.specs.Capture.{WroteEach}
use Rattle.cmd_serve.specs.ScheduleRun.{ScheduleRun}
use Rattle.drm_server.specs.Serving.{IsOneUp, FramesCome}
use Rattle.cmd_serve.specs.Send.{GroupRan, AreUp, IsOneDown, SendRun}

-- The schedule of this name, whose live streams have these bytes of input from frame `first` on: frame by frame its piece, as long as
-- whole pieces are there, and then their own content.
abbrev pub live_named : List ℕ → Live → ℕ → List ℕ → ShelfReading Plan
live_named name live first bytes = do
  schedule ← schedule_named name
  given (Ok (fed live schedule first bytes))

-- A run in which no read of input failed: these bytes were read of it, and it has ended with them where `ended` says so. Whatever it has
-- behind them, this is a run of the schedule that its bytes make.
pub record FedRun {S : Type 0} (name : List ℕ) (live : Live) (stretch : Stretch) (ending : Result Bool Fault) (shelf_known : S → Known Files) (shelf shelf' : S)
    (input input' : Known Input) (Runs : ShelfReading Plan → Type 0) : Type 0 where
  pub bytes : List ℕ
  pub ended : Bool
  pub read : HasRead ended bytes input input'
  pub same : input'.faults ≡ input.faults
  pub runs : (more : List ℕ) → (ended ≡ true → more ≡ []) → Runs (live_named name live (first_in stretch) (bytes ++ more))
  -- After a run that is done these are the pieces of all frames from there on, or, where some frame lacks its piece, all that input had.
  pub taken : (whole : Bool) → ending ≡ Ok whole
      → ShelfSupplies (shelf_known shelf) (shelf_known shelf') (λ files _. (plan : Plan) → (schedule_named name files).outcome ≡ Ok plan
      → (ended ≡ not whole) × AreTaken ended live plan (first_in stretch) (first_in stretch + frames_in stretch plan) bytes)

-- A run that a failed read of input broke off, within the piece of the frame behind n others, of which `Made` holds. No load failed.
pub record BrokenRun {S : Type 0} (name : List ℕ) (live : Live) (stretch : Stretch) (shelf_known : S → Known Files) (shelf shelf' : S)
    (input input' : Known Input) (Made : Plan → ℕ → Type 0) : Type 0 where
  pub plan : Plan
  pub loads : ReadBy (schedule_named name) (Ok plan) (shelf_known shelf) (shelf_known shelf')
  pub sound : IsSchedule plan
  pub n : ℕ
  pub within : n < frames_in stretch plan
  pub broken : BreaksIn live plan (first_in stretch) n input input' (λ p. Made p n)
  pub once : HasFailed input input'
  pub loaded : (shelf_known shelf').faults ≡ (shelf_known shelf).faults

-- A run of `serve` to out: it writes the capture of the schedule that input makes, of these super frames; or, where a read fails, that of the
-- frames before.
abbrev pub LiveServeRun : {S I O : Type 0} → List ℕ → Stretch → Live → Result Bool Fault → (S → Known Files) → S → S → (I → Known Input) → I → I → (O → Known Output) → O → O → Type 0
LiveServeRun name stretch live ending shelf_known shelf shelf' input_known input input' out_known out out' =
    FedRun name live stretch ending shelf_known shelf shelf' (input_known input) (input_known input')
    (λ reading. ScheduleRun reading IsSchedule (λ (schedule : Plan). IsCapture schedule stretch) (λ (schedule : Plan). IsPrefixOfCapture schedule stretch) (done_of ending)
    shelf_known shelf shelf' out_known out out')
    ⊎ ((ending ≡ Err faults.Read)
    × BrokenRun name live stretch shelf_known shelf shelf' (input_known input) (input_known input') (λ p n. WroteEach (first_in stretch) n (out_known out) (out_known out') p))

-- A run over so many links that a failed read broke off: the frames before were sent, and some link hadn't failed. The read is told, or, where
-- another link failed, that.
pub record BrokenOver {S : Type 0} (name : List ℕ) (pace : ℕ) (stretch : Stretch) (live : Live) (ending : Result Bool Fault) (shelf_known : S → Known Files) (shelf shelf' : S)
    (input input' : Known Input) (links : ℕ) (up : List Bool) (Made : (List Bool → List GroupEvent → List Bool → Type 0) → Type 0) : Type 0 where
  pub left : IsOneUp up
  pub ends : ((ending ≡ Err faults.Read) × AreUp links up) ⊎ ((ending ≡ Err faults.Link) × IsOneDown links up)
  pub run : BrokenRun name live stretch shelf_known shelf shelf' input input' (λ p n. Made (FramesCome p (first_in stretch) pace n))

-- Such a run over the links at these addresses. No opening failed.
pub record BrokenSend {S D : Type 0} (name : List ℕ) (addresses : List Address) (pace : ℕ) (stretch : Stretch) (live : Live) (ending : Result Bool Fault)
    (shelf_known : S → Known Files) (shelf shelf' : S) (input input' : Known Input) (dock_known : D → Known DockContents) (dock dock' : D) : Type 0 where
  pub up : List Bool
  pub over : BrokenOver name pace stretch live ending shelf_known shelf shelf' input input' (length addresses) up
      (λ Comes. KnownThrough (dock_known dock) (dock_known dock') (GroupRan Comes up addresses))
  pub same : (dock_known dock').faults ≡ (dock_known dock).faults

-- A run of `serve --to` these addresses: what happened at the links is what the schedule that input makes calls for. Where no stream is
-- live it is the schedule itself, and input is left alone.
abbrev pub LiveSendRun : {S I D : Type 0} → List ℕ → List Address → ℕ → Stretch → Live → Result Bool Fault → (S → Known Files) → S → S → (I → Known Input) → I → I → (D → Known DockContents) → D → D → Type 0
LiveSendRun name addresses pace stretch live ending shelf_known shelf shelf' input_known input input' dock_known dock dock' =
    FedRun name live stretch ending shelf_known shelf shelf' (input_known input) (input_known input')
    (λ reading. SendRun reading addresses pace stretch (done_of ending) shelf_known shelf shelf' dock_known dock dock')
    ⊎ BrokenSend name addresses pace stretch live ending shelf_known shelf shelf' (input_known input) (input_known input') dock_known dock dock'
