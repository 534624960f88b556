-- The headline of a command that ended with a report.
use Rattle.std.proofs.Common.{◌≡◌, inl, inr, ℕ, Bool, true, false, List, None, Some, Result, Ok, Err, refl}
use Rattle.drm_links.specs.Known.{Known}
use Rattle.drm_links.specs.Shelf.{Files}
use Rattle.drm_links.specs.Sink.{Output}
use Rattle.drm_links.specs.Dock.{DockContents, DockKnownThrough}
use Rattle.drm_links.proofs.OpeningLemmas.{docked_weaker}
use Rattle.drm_links.specs.declared.dock.Address.{Address}
use Rattle.drm_schedule.specs.declared.plan.Plan.{Plan}
use Rattle.drm_schedule.specs.Valid.{IsSchedule}
use Rattle.plan_script.specs.declared.delivery.Delivery.{Delivery}
use Rattle.cmd_load.specs.declared.loading.ScheduleFault.{ScheduleFault}
use Rattle.cmd_load.specs.Loading.{ReadBy}
use Rattle.cmd_load.specs.Faults.{fault_of_schedule, fault_of_script}
use Rattle.cmd_load.specs.Schedule.{schedule_named}
use Rattle.cmd_load.specs.Scripts.{script_named}
use Rattle.recv_reading.specs.declared.options.ReceiveOptions.{ReceiveOptions}
use Rattle.cmd_receive.specs.Receive.{AreReports, WritesReports, WritesAll, ReceiveRun}
use Rattle.cmd_receive.proofs.ReceiveStatus.{all_reports}
use Rattle.cmd_air.specs.Air.{BySchedule, ByScript}
use Rattle.cmd_faults.specs.declared.fault.Fault.{Fault}
use Rattle.cmd_faults.specs.declared.fault.Fault.TheVariants as faults
use Rattle.cmd_faults.specs.Fault.{clean_status, fault_status}
use Rattle.drm_top.specs.Outside.{Outside}
use Rattle.drm_words.specs.declared.request.Request.{Request}
use Rattle.drm_words.specs.declared.request.Request.TheVariants.{Receive, Air}
use Rattle.recv_reading.specs.Values.{receive_options}
use Rattle.drm_top.specs.Command.{CommandRun, RunsCommand}
use Rattle.drm_top.specs.Headline.{WroteFeeds, HeadlineOfRun}

-- ---- the three commands that report

no_fault : (clean : Bool) (fault : Fault) → Ok clean ≡ Err fault → ⊥
no_fault clean fault is = cc

-- what comes of the schedule, and then of the script
module _ {S O : Type 0} (name script : List ℕ) (window : ℕ) (clean : Bool)
    (known : S → Known Files) (shelf between shelf' : S) (out_known : O → Known Output) (out out' : O) where
  abbrev Feeds : Type 0
  Feeds = WroteFeeds name script window clean known shelf shelf' out_known out out'

  of_script : (plan : Plan) (outcome : Result (List (List Delivery)) ScheduleFault) → IsSchedule plan
      → ReadBy (schedule_named name) (Ok plan) (known shelf) (known between) → ReadBy (script_named plan script) outcome (known between) (known shelf')
      → ByScript plan window outcome (Ok clean) out_known out out' → Feeds
  of_script plan (Ok feeds) valid schedule deliveries (is, wrote, kind) = record {
    plan = plan;
    valid = valid;
    between = between;
    schedule = schedule;
    feeds = feeds;
    deliveries = deliveries;
    wrote = wrote;
  }
  of_script plan (Err fault) valid schedule deliveries (is, still) = absurd (no_fault clean (fault_of_script fault) is)

  of_schedule : (outcome : Result Plan ScheduleFault) → ReadBy (schedule_named name) outcome (known shelf) (known between)
      → BySchedule script window outcome (Ok clean) known between shelf' out_known out out' → Feeds
  of_schedule (Ok plan) schedule over = of_script plan over.outcome over.valid schedule over.loads over.writes
  of_schedule (Err fault) schedule (is, unread, still) = absurd (no_fault clean (fault_of_schedule fault) is)

-- the reports of links
of_links : {D O : Type 0} (rules : ReceiveOptions) (addresses : List Address) (clean : Bool)
    (dock_known : D → Known DockContents) (dock dock' : D) (out_known : O → Known Output) (out out' : O)
    → ReceiveRun rules addresses (Ok clean) dock_known dock dock' out_known out out'
    → DockKnownThrough (dock_known dock) (dock_known dock') (λ contents. WritesReports (AreReports rules contents addresses) (Ok clean) out_known out out')
of_links rules addresses clean dock_known dock dock' out_known out out' run =
    docked_weaker (λ contents. WritesAll rules contents addresses (Ok clean) out_known out out')
    (λ contents. WritesReports (AreReports rules contents addresses) (Ok clean) out_known out out')
    (dock_known dock) (dock_known dock') run.writes (λ contents writes. all_reports rules contents addresses clean out_known out out' writes)

-- ---- all commands

one_status : (a b : Bool) → clean_status a ≡ clean_status b → a ≡ b
one_status true true same = refl
one_status true false same = cc
one_status false true same = cc
one_status false false same = refl

module _ {S I O E D : Type 0} (clean err_ok : Bool) (o : Outside S I O E D) where
  of_command : (request : Request) → CommandRun request (Ok clean) err_ok o → HeadlineOfRun request clean o
  of_command (Receive (Some addresses) window reach first frames idle limit) run =
      of_links (receive_options window reach first frames idle limit) addresses clean o.dock.known o.dock.before o.dock.after o.out.known o.out.before o.out.after run.0
  of_command (Receive None window reach first frames idle limit) run = run.0.writes clean refl
  of_command (Air name script window) run =
      of_schedule name script window clean o.shelf.known o.shelf.before run.0.between o.shelf.after o.out.known o.out.before o.out.after run.0.outcome run.0.loads run.0.runs
  of_command _ run = tt

  of_runs : (request : Request) → RunsCommand request (Ok clean) err_ok o → HeadlineOfRun request clean o
  of_runs request (inl run) = of_command request run
  of_runs request (inr (memory, untouched, quiet)) = absurd (no_fault clean faults.NoMemory memory)

  -- whatever Bool has this status is the one with which the run ended
  pub headline_of : (request : Request) (other : Bool) → clean_status clean ≡ clean_status other → RunsCommand request (Ok clean) err_ok o → HeadlineOfRun request other o
  headline_of request other same runs = rw (← one_status clean other same) (of_runs request runs)

-- the statuses 0 and 7 are those of no fault
pub not_a_fault : (fault : Fault) (clean : Bool) → fault_status fault ≡ clean_status clean → ⊥
not_a_fault faults.NoMemory true is = cc
not_a_fault faults.NoMemory false is = cc
not_a_fault faults.Words true is = cc
not_a_fault faults.Words false is = cc
not_a_fault (faults.FacLength n) true is = cc
not_a_fault (faults.FacLength n) false is = cc
not_a_fault faults.FacOver true is = cc
not_a_fault faults.FacOver false is = cc
not_a_fault (faults.FacCrc s c) true is = cc
not_a_fault (faults.FacCrc s c) false is = cc
not_a_fault (faults.Schedule l r) true is = cc
not_a_fault (faults.Schedule l r) false is = cc
not_a_fault (faults.Script l r) true is = cc
not_a_fault (faults.Script l r) false is = cc
not_a_fault (faults.Capture f) true is = cc
not_a_fault (faults.Capture f) false is = cc
not_a_fault faults.CaptureTooLong true is = cc
not_a_fault faults.CaptureTooLong false is = cc
not_a_fault (faults.PacketSize p) true is = cc
not_a_fault (faults.PacketSize p) false is = cc
not_a_fault (faults.Units f) true is = cc
not_a_fault (faults.Units f) false is = cc
not_a_fault faults.Read true is = cc
not_a_fault faults.Read false is = cc
not_a_fault faults.Write true is = cc
not_a_fault faults.Write false is = cc
not_a_fault faults.Link true is = cc
not_a_fault faults.Link false is = cc
