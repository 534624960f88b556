-- The command `capacity`: what the configurations of a schedule use of their channels.
use Rattle.std.specs.Prelude.{ℕ, ◌≡◌, ◌⊎◌, Bool, List, Result, Ok, Err}
use Rattle.drm_links.specs.Known.{Known}
use Rattle.drm_links.specs.Shelf.{Files, ShelfSupplies}
use Rattle.drm_links.specs.Sink.{Output, IsPrefix}
use Rattle.drm_schedule.specs.declared.plan.Plan.{Plan}
use Rattle.drm_schedule.specs.Valid.{IsSchedule}
use Rattle.cmd_load.specs.Schedule.{schedule_named}
use Rattle.cmd_load.specs.Faults.{fault_of_schedule}
use Rattle.cmd_load.specs.declared.loading.ScheduleFault.{ScheduleFault}
use Rattle.cmd_serve.specs.ScheduleRun.{ScheduleRun}
use Rattle.cmd_faults.specs.Fault.{UnlessMemory, done_of}
use Rattle.cmd_faults.specs.declared.fault.Fault.{Fault}
use Rattle.cmd_faults.specs.declared.fault.Fault.TheVariants.{Write}
use Rattle.cmd_capacity.specs.Report.{report, all_fit}

-- It ends by what came: where that is a schedule it says whether all fits, unless a write failed; else with the fault.
abbrev pub CapacityEndsBy : Result Plan ScheduleFault → Result Bool Fault → Type 0
CapacityEndsBy (Ok plan) ending = (ending ≡ Ok (all_fit plan)) ⊎ (ending ≡ Err Write)
CapacityEndsBy (Err fault) ending = ending ≡ Err (fault_of_schedule fault)

-- A run of `capacity`: it writes the report of the schedule that came.
pub record CapacityRun {S O : Type 0} (name : List ℕ) (ending : Result Bool Fault) (shelf_known : S → Known Files) (shelf shelf' : S) (out_known : O → Known Output) (out out' : O) : Type 0 where
  pub run : ScheduleRun (schedule_named name) IsSchedule (λ (plan : Plan) text. text ≡ report plan) (λ (plan : Plan). IsPrefix (report plan)) (done_of ending) shelf_known shelf shelf' out_known out out'
  pub ends : CapacityEndsBy run.outcome ending
  -- Where the shelf tells, that is what its files come to.
  pub exactly : ShelfSupplies (shelf_known shelf) (shelf_known shelf') (λ before _. UnlessMemory ending (CapacityEndsBy (schedule_named name before).outcome ending))
