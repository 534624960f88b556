-- The runs of the commands.
use Rattle.std.specs.Prelude.{ℕ, ◌≡◌, ◌⊎◌, Bool, true, false, IsTrue, List, [], ◌∷◌, None, Some, Result, Err}
use Rattle.drm_links.specs.Known.{Known}
use Rattle.drm_links.specs.Sink.{Output}
use Rattle.drm_links.specs.declared.dock.Address.{Address}
use Rattle.cmd_show.specs.Fac.{FacRun}
use Rattle.cmd_show.specs.Show.{ShowRun}
use Rattle.cmd_serve.specs.Check.{CheckRun}
use Rattle.cmd_capacity.specs.Run.{CapacityRun}
use Rattle.drm_server.specs.declared.stretch.Stretch.{Stretch}
use Rattle.cmd_agree.specs.Run.{AgreeRun}
use Rattle.cmd_serve.specs.Live.{LiveServeRun, LiveSendRun}
use Rattle.live_server.specs.Loading.{IsFed}
use Rattle.drm_schedule.specs.declared.live.Live.{Live}
use Rattle.drm_schedule.specs.Live.{is_any}
use Rattle.cmd_receive.specs.Receive.{ReceiveRun}
use Rattle.cmd_receive.specs.Capture.{CaptureRun}
use Rattle.cmd_count.specs.Run.{CountRun, CountCaptureRun}
use Rattle.cmd_air.specs.Air.{AirRun}
use Rattle.cmd_exercise.specs.Run.{ExerciseRun}
use Rattle.cmd_convert.specs.Run.{ConvertRun}
use Rattle.cmd_gate.specs.Run.{GateCommandRun}
use Rattle.cmd_pack.specs.Pack.{PackRun}
use Rattle.cmd_unpack.specs.Streams.{UnitsOf, TextsOf}
use Rattle.cmd_unpack.specs.Run.{DataRun}
use Rattle.cmd_faults.specs.Fault.{done_of, whole_of, report_status, ReportsIf}
use Rattle.cmd_faults.specs.declared.fault.Fault.{Fault}
use Rattle.cmd_faults.specs.declared.fault.Fault.TheVariants.{NoMemory}
use Rattle.drm_top.specs.Outside.{Outside, IsStill}
use Rattle.recv_reading.specs.Values.{receive_options, packet_range}
use Rattle.drm_words.specs.declared.request.Request.{Request}
use Rattle.drm_words.specs.declared.request.Request.TheVariants.{Fac, Check, Capacity, Agree, Serve, Receive, Count, Air, Show, Exercise, Convert, Gate, Pack, Unpack, Texts}

-- a run that tells of no frames
abbrev pub EndsWhole : Result Bool Fault → (Result (Unit {0}) Fault → Type 0) → Type 0
EndsWhole ending P = (done : Result (Unit {0}) Fault) × (ending ≡ whole_of done) × P done

-- nothing was written to err, which can still be told
abbrev pub IsQuiet : {E : Type 0} → Bool → E → E → Type 0
IsQuiet err_ok err err' = (err_ok ≡ true) × (err' ≡ err)

-- A run of `serve` to out: where no stream is live input is left alone.
abbrev pub ServesOut : {S I O E D : Type 0} → List ℕ → Stretch → Live → Result Bool Fault → Outside S I O E D → Type 0
ServesOut name stretch live ending o =
    LiveServeRun name stretch live ending o.shelf.known o.shelf.before o.shelf.after o.input.known o.input.before o.input.after o.out.known o.out.before o.out.after
    × IsFed live o.input.before o.input.after ending

-- and over links
abbrev pub ServesOver : {S I O E D : Type 0} → List ℕ → List Address → ℕ → Stretch → Live → Result Bool Fault → Outside S I O E D → Type 0
ServesOver name addresses pace stretch live ending o =
    LiveSendRun name addresses pace stretch live ending o.shelf.known o.shelf.before o.shelf.after o.input.known o.input.before o.input.after o.dock.known o.dock.before o.dock.after
    × IsFed live o.input.before o.input.after ending

-- A run of the command that this asks for, with this ending: what it doesn't use stays as it is. Where `err_ok` doesn't hold, err failed.
abbrev pub CommandRun : {S I O E D : Type 0} → Request → Result Bool Fault → Bool → Outside S I O E D → Type 0
CommandRun Fac ending err_ok o =
    EndsWhole ending (λ done. FacRun done o.input.known o.input.before o.input.after o.out.known o.out.before o.out.after) × IsStill o.shelf × IsStill o.dock × IsQuiet err_ok o.err.before o.err.after
CommandRun (Check name) ending err_ok o =
    EndsWhole ending (λ done. CheckRun name done o.shelf.known o.shelf.before o.shelf.after o.out.known o.out.before o.out.after) × IsStill o.input × IsStill o.dock × IsQuiet err_ok o.err.before o.err.after
CommandRun (Capacity name) ending err_ok o =
    CapacityRun name ending o.shelf.known o.shelf.before o.shelf.after o.out.known o.out.before o.out.after × IsStill o.input × IsStill o.dock × IsQuiet err_ok o.err.before o.err.after
CommandRun (Agree name other) ending err_ok o =
    EndsWhole ending (λ done. AgreeRun name other done o.shelf.known o.shelf.before o.shelf.after o.out.known o.out.before o.out.after) × IsStill o.input × IsStill o.dock × IsQuiet err_ok o.err.before o.err.after
CommandRun (Serve name [] pace from until live) ending err_ok o =
    ServesOut name (record { from = from; until = until }) live ending o × IsStill o.dock × IsQuiet err_ok o.err.before o.err.after
CommandRun (Serve name (at ∷ others) pace from until live) ending err_ok o =
    ServesOver name (at ∷ others) pace (record { from = from; until = until }) live ending o × IsStill o.out × IsQuiet err_ok o.err.before o.err.after
CommandRun (Receive (Some addresses) window reach first frames idle limit) ending err_ok o =
    ReceiveRun (receive_options window reach first frames idle limit) addresses ending o.dock.known o.dock.before o.dock.after o.out.known o.out.before o.out.after × IsStill o.shelf × IsStill o.input × IsQuiet err_ok o.err.before o.err.after
CommandRun (Receive None window reach first frames idle limit) ending err_ok o =
    CaptureRun (receive_options window reach first frames idle limit) ending o.input.known o.input.before o.input.after o.out.known o.out.before o.out.after × IsStill o.shelf × IsStill o.dock × IsQuiet err_ok o.err.before o.err.after
CommandRun (Count (Some at) window reach first frames idle limit) ending err_ok o =
    CountRun (receive_options window reach first frames idle limit) at ending o.dock.known o.dock.before o.dock.after o.out.known o.out.before o.out.after × IsStill o.shelf × IsStill o.input × IsQuiet err_ok o.err.before o.err.after
CommandRun (Count None window reach first frames idle limit) ending err_ok o =
    CountCaptureRun (receive_options window reach first frames idle limit) ending o.input.known o.input.before o.input.after o.out.known o.out.before o.out.after × IsStill o.shelf × IsStill o.dock × IsQuiet err_ok o.err.before o.err.after
CommandRun (Air name script window) ending err_ok o =
    AirRun name script window ending o.shelf.known o.shelf.before o.shelf.after o.out.known o.out.before o.out.after × IsStill o.input × IsStill o.dock × IsQuiet err_ok o.err.before o.err.after
CommandRun Show ending err_ok o =
    ShowRun ending o.input.known o.input.before o.input.after o.out.known o.out.before o.out.after × IsStill o.shelf × IsStill o.dock × IsQuiet err_ok o.err.before o.err.after
CommandRun (Exercise n) ending err_ok o =
    ExerciseRun n ending o.out.known o.out.before o.out.after × IsStill o.shelf × IsStill o.input × IsStill o.dock × IsQuiet err_ok o.err.before o.err.after
CommandRun (Convert carry window reach first frames) ending err_ok o =
    ConvertRun (packet_range window reach first frames) carry ending err_ok o.input.known o.input.before o.input.after o.out.known o.out.before o.out.after o.err.known o.err.before o.err.after × IsStill o.shelf × IsStill o.dock
CommandRun (Gate from to carry window reach first frames idle limit) ending err_ok o =
    GateCommandRun (receive_options window reach first frames idle limit) carry from to ending o.dock.known o.dock.before o.dock.after o.out.known o.out.before o.out.after × IsStill o.shelf × IsStill o.input × IsQuiet err_ok o.err.before o.err.after
CommandRun (Pack pid length) ending err_ok o =
    EndsWhole ending (λ done. PackRun pid length done o.input.known o.input.before o.input.after o.out.known o.out.before o.out.after) × IsStill o.shelf × IsStill o.dock × IsQuiet err_ok o.err.before o.err.after
CommandRun (Unpack stream pid length window reach first frames) ending err_ok o =
    DataRun (packet_range window reach first frames) (UnitsOf stream pid length) ending o.input.known o.input.before o.input.after o.out.known o.out.before o.out.after
    × IsStill o.shelf × IsStill o.dock × IsQuiet err_ok o.err.before o.err.after
CommandRun (Texts stream window reach first frames) ending err_ok o =
    DataRun (packet_range window reach first frames) (TextsOf stream) ending o.input.known o.input.before o.input.after o.out.known o.out.before o.out.after
    × IsStill o.shelf × IsStill o.dock × IsQuiet err_ok o.err.before o.err.after

-- nothing of the outside was touched
abbrev pub IsOutsideUntouched : {S I O D : Type 0} → S → S → I → I → O → O → D → D → Type 0
IsOutsideUntouched shelf shelf' input input' out out' dock dock' = (shelf' ≡ shelf) × (input' ≡ input) × (out' ≡ out) × (dock' ≡ dock)

-- What comes of words that ask for this: a run of the command; or memory ran out while they were read, and nothing was touched.
abbrev pub RunsCommand : {S I O E D : Type 0} → Request → Result Bool Fault → Bool → Outside S I O E D → Type 0
RunsCommand request ending err_ok o =
    CommandRun request ending err_ok o
    ⊎ ((ending ≡ Err NoMemory) × IsOutsideUntouched o.shelf.before o.shelf.after o.input.before o.input.after o.out.before o.out.after o.dock.before o.dock.after × IsQuiet err_ok o.err.before o.err.after)

-- How a run ends: its status, and the line of its fault on err, behind what the command has written there, unless err failed.
abbrev pub RunEnds : {E : Type 0} → Result Bool Fault → Bool → ℕ → (E → Known Output) → E → E → Type 0
RunEnds ending err_ok code known err err' = (code ≡ report_status ending) × ReportsIf err_ok (done_of ending) known err err'

-- a command that opens a link
abbrev pub OpensALink : Request → Type 0
OpensALink (Serve name (at ∷ others) pace from until live) = Unit {0}
OpensALink (Receive (Some addresses) window reach first frames idle limit) = Unit {0}
OpensALink (Count (Some at) window reach first frames idle limit) = Unit {0}
OpensALink (Gate from to carry window reach first frames idle limit) = Unit {0}
OpensALink _ = ⊥

-- a command that tells of frames or packets, some of which may be missing or bad, or of what may not fit its channel, or sends frames
-- that may lack bytes of input
abbrev pub WritesReport : Request → Type 0
WritesReport Fac = ⊥
WritesReport (Check name) = ⊥
WritesReport (Agree name other) = ⊥
WritesReport (Serve name to pace from until live) = IsTrue (is_any live)
WritesReport (Pack pid length) = ⊥
WritesReport _ = Unit {0}
