-- A run of `capacity`, by what came of the schedule and what was written.
use Rattle.std.proofs.Common.{◌≡◌, ℕ, inl, inr, Bool, List, Result, Ok, Err, IfOk, refl, subst}
use Rattle.drm_links.specs.Known.{HasFailed, Known, HasCause}
use Rattle.drm_links.specs.Shelf.{Files, ShelfSupplies}
use Rattle.drm_links.specs.Sink.{Output, OutputsText, IsPrefix}
use Rattle.drm_links.proofs.KnownLemmas.{Tells-weaker, counts_one, counts_none, counts_as}
use Rattle.drm_schedule.specs.declared.plan.Plan.{Plan}
use Rattle.drm_schedule.specs.Valid.{IsSchedule}
use Rattle.cmd_faults.specs.declared.fault.Fault.{Fault}
use Rattle.cmd_faults.specs.declared.fault.Fault.TheVariants as faults
use Rattle.cmd_faults.specs.Fault.{UnlessMemory, done_of}
use Rattle.cmd_load.specs.declared.loading.ScheduleFault.{ScheduleFault}
use Rattle.cmd_load.specs.declared.loading.ScheduleFault.TheVariants as schedule
use Rattle.cmd_load.specs.Faults.{fault_of_schedule}
use Rattle.cmd_load.specs.Loading.{ReadBy}
use Rattle.cmd_load.specs.Schedule.{schedule_named}
use Rattle.cmd_serve.specs.ScheduleRun.{WritesOutcome}
use Rattle.cmd_serve.proofs.ScheduleRunLemmas as runs
use Rattle.cmd_serve.proofs.ScheduleRunLemmas.{outcome_or_memory, is_read, read_is}
use Rattle.cmd_capacity.specs.Report.{report, all_fit}
use Rattle.cmd_capacity.specs.Run.{CapacityEndsBy, CapacityRun}

-- all lines of a schedule, and a front of them
abbrev pub whole : Plan → List ℕ → Type 0
whole plan text = text ≡ report plan

abbrev pub front : Plan → List ℕ → Type 0
front plan = IsPrefix (report plan)

-- memory ran out while the schedule was read
ends_memory : (outcome : Result Plan ScheduleFault) (ending : Result Bool Fault) → CapacityEndsBy outcome ending → outcome ≡ Err schedule.NoMemory → ending ≡ Err faults.NoMemory
ends_memory outcome ending ends is = let P : Result Plan ScheduleFault → Type 0 = λ v. CapacityEndsBy v ending in subst P is ends

ends_exactly : (name : List ℕ) (outcome : Result Plan ScheduleFault) (ending : Result Bool Fault) (a b : Known Files) → ReadBy (schedule_named name) outcome a b → CapacityEndsBy outcome ending
    → ShelfSupplies a b (λ before _. UnlessMemory ending (CapacityEndsBy (schedule_named name before).outcome ending))
ends_exactly name outcome ending a b loads ends =
    Tells-weaker _ _ a b loads
    (λ x y is. elim (outcome_or_memory (schedule_named name) outcome x y is) [
      | inl memory ↦ inl (ends_memory outcome ending ends memory)
      | inr same ↦ inr (let P : Result Plan ScheduleFault → Type 0 = λ v. CapacityEndsBy v ending in subst P same ends)
    ])

not_write : (fault : ScheduleFault) → (let ended : Result (Unit {0}) Fault = Err (fault_of_schedule fault) in ended ≡ Err faults.Write) → ⊥
not_write schedule.NoMemory is = cc
not_write (schedule.Line l r) is = cc
not_write schedule.Read is = cc

module _ {S O : Type 0} (name : List ℕ) (shelf_known : S → Known Files) (shelf shelf' : S) (out_known : O → Known Output) where
  run_by : (ending : Result Bool Fault) (out out' : O) (outcome : Result Plan ScheduleFault) → ReadBy (schedule_named name) outcome (shelf_known shelf) (shelf_known shelf') → IfOk outcome IsSchedule
      → WritesOutcome whole front outcome (done_of ending) out_known out out' → CapacityEndsBy outcome ending
      → HasCause (shelf_known shelf) (shelf_known shelf') (done_of ending ≡ Err faults.Read) → HasCause (out_known out) (out_known out') (done_of ending ≡ Err faults.Write)
      → CapacityRun name ending shelf_known shelf shelf' out_known out out'
  run_by ending out out' outcome loads sound writes ends read_cause write_cause = record {
    run = record {
      outcome = outcome;
      loads = loads;
      sound = sound;
      writes = writes;
      exactly = runs.exactly (schedule_named name) IsSchedule whole front (done_of ending) shelf_known shelf shelf' out_known out out' outcome loads writes write_cause;
      complete = runs.complete (schedule_named name) IsSchedule whole front (done_of ending) shelf_known shelf shelf' out_known out out' outcome loads writes write_cause;
      read_cause = read_cause;
      write_cause = write_cause;
    };
    ends = ends;
    exactly = ends_exactly name outcome ending (shelf_known shelf) (shelf_known shelf') loads ends;
  }

  -- nothing was read, and nothing is written
  pub refused_run : (fault : ScheduleFault) (out : O) → ReadBy (schedule_named name) (Err fault) (shelf_known shelf) (shelf_known shelf') → HasCause (shelf_known shelf) (shelf_known shelf') (fault ≡ schedule.Read)
      → CapacityRun name (Err (fault_of_schedule fault)) shelf_known shelf shelf' out_known out out
  refused_run fault out loads cause =
      run_by (Err (fault_of_schedule fault)) out out (Err fault) loads tt (refl, refl) refl
      (counts_as (is_read fault) (read_is fault) cause) (counts_none (not_write fault) refl)

  module _ (plan : Plan) (sound : IsSchedule plan) (loads : ReadBy (schedule_named name) (Ok plan) (shelf_known shelf) (shelf_known shelf')) (same : (shelf_known shelf').faults ≡ (shelf_known shelf).faults) (out out' : O) where
    -- a write failed
    pub cut_run : OutputsText (out_known out) (out_known out') (front plan) → HasFailed (out_known out) (out_known out') → CapacityRun name (Err faults.Write) shelf_known shelf shelf' out_known out out'
    cut_run written once = run_by (Err faults.Write) out out' (Ok plan) loads sound (refl, written) (inr refl) (counts_none (λ is. cc) same) (counts_one refl once)

    pub whole_run : OutputsText (out_known out) (out_known out') (whole plan) → (out_known out').faults ≡ (out_known out).faults → CapacityRun name (Ok (all_fit plan)) shelf_known shelf shelf' out_known out out'
    whole_run written still = run_by (Ok (all_fit plan)) out out' (Ok plan) loads sound written (inl refl) (counts_none (λ is. cc) same) (counts_none (λ is. cc) still)
