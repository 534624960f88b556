-- What a run over a schedule says of how it ends.
use Rattle.std.proofs.Common.{◌≡◌, ℕ, ◌⊎◌, inl, inr, List, Result, Ok, Err, IfOk, refl, sym, ◌∙◌, ap, subst}
use Rattle.drm_links.specs.Known.{HasFailed, Known, HasCause}
use Rattle.drm_links.specs.Shelf.{Files, ShelfSupplies}
use Rattle.drm_links.specs.Sink.{Output, OutputsText}
use Rattle.drm_links.proofs.KnownLemmas.{Tells-weaker, counts_one, counts_none, counts_as}
use Rattle.cmd_faults.specs.declared.fault.Fault.{Fault}
use Rattle.cmd_faults.specs.declared.fault.Fault.TheVariants.{NoMemory, Read, Write}
use Rattle.cmd_load.specs.declared.loading.ScheduleFault.{ScheduleFault}
use Rattle.cmd_load.specs.declared.loading.ScheduleFault.TheVariants as schedule
use Rattle.cmd_load.specs.Faults.{fault_of_schedule}
use Rattle.cmd_load.specs.Loading.{ShelfReading, ShelfStep, ReadBy}
use Rattle.cmd_load.proofs.LoadingLemmas.{Comes}
use Rattle.cmd_serve.specs.ScheduleRun.{WritesOutcome, ServeEndsBy, ScheduleRun}
use Rattle.cmd_faults.specs.Fault.{UnlessMemory}

module _ {T O : Type 0} (whole front : T → List ℕ → Type 0) where
  -- it ends by what came
  ends_by : (outcome : Result T ScheduleFault) (ending : Result (Unit {0}) Fault) (known : O → Known Output) (out out' : O) → WritesOutcome whole front outcome ending known out out' → ServeEndsBy Write outcome ending
  ends_by (Ok x) (Ok done) known out out' writes = inl refl
  ends_by (Ok x) (Err fault) known out out' writes = inr (ap Err writes.0)
  ends_by (Err fault) ending known out out' writes = writes.0

  all_written : (x : T) (ending : Result (Unit {0}) Fault) (known : O → Known Output) (out out' : O) → WritesOutcome whole front (Ok x) ending known out out' → (ending ≡ Err Write → ⊥) → (ending ≡ Ok tt) × OutputsText (known out) (known out') (whole x)
  all_written x (Ok done) known out out' writes none = (refl, writes)
  all_written x (Err fault) known out out' writes none = absurd (none (ap Err writes.0))

-- what comes of a reading where memory didn't run out is what the files come to
pub outcome_or_memory : {T : Type 0} (reading : ShelfReading T) (outcome : Result T ScheduleFault) (x y : Files) → Comes reading outcome x y → (outcome ≡ Err schedule.NoMemory) ⊎ (outcome ≡ (reading x).outcome)
outcome_or_memory {T} reading outcome x y (inl is) = inr (sym (ap (λ (step : ShelfStep T). step.outcome) is))
outcome_or_memory reading outcome x y (inr memory) = inl memory.0

-- memory ran out while it was read
pub ends_memory : {T : Type 0} (outside : Fault) (outcome : Result T ScheduleFault) (ending : Result (Unit {0}) Fault) → ServeEndsBy outside outcome ending → outcome ≡ Err schedule.NoMemory → ending ≡ Err NoMemory
ends_memory {T} outside outcome ending ends is = let P : Result T ScheduleFault → Type 0 = λ v. ServeEndsBy outside v ending in subst P is ends

pub ends_exactly : {T : Type 0} (outside : Fault) (reading : ShelfReading T) (outcome : Result T ScheduleFault) (ending : Result (Unit {0}) Fault) (a b : Known Files) → ReadBy reading outcome a b → ServeEndsBy outside outcome ending
    → ShelfSupplies a b (λ before _. UnlessMemory ending (ServeEndsBy outside (reading before).outcome ending))
ends_exactly {T} outside reading outcome ending a b loads ends =
    Tells-weaker _ _ a b loads
    (λ x y is. elim (outcome_or_memory reading outcome x y is) [
      | inl memory ↦ inl (ends_memory outside outcome ending ends memory)
      | inr same ↦ inr (let P : Result T ScheduleFault → Type 0 = λ v. ServeEndsBy outside v ending in subst P same ends)
    ])

module _ {T S O : Type 0} (reading : ShelfReading T) (is_sound : T → Type 0) (whole front : T → List ℕ → Type 0) (ending : Result (Unit {0}) Fault) (shelf_known : S → Known Files) (shelf shelf' : S) (out_known : O → Known Output) (out out' : O)
    (outcome : Result T ScheduleFault) (loads : ReadBy reading outcome (shelf_known shelf) (shelf_known shelf')) (writes : WritesOutcome whole front outcome ending out_known out out') (write_cause : HasCause (out_known out) (out_known out') (ending ≡ Err Write)) where
  ends : ServeEndsBy Write outcome ending
  ends = ends_by whole front outcome ending out_known out out' writes

  pub exactly : ShelfSupplies (shelf_known shelf) (shelf_known shelf') (λ before _. UnlessMemory ending (ServeEndsBy Write (reading before).outcome ending))
  exactly = ends_exactly Write reading outcome ending (shelf_known shelf) (shelf_known shelf') loads ends

  pub complete : (HasFailed (out_known out) (out_known out') → ⊥)
      → ShelfSupplies (shelf_known shelf) (shelf_known shelf') (λ before _. (x : T) → (reading before).outcome ≡ Ok x → UnlessMemory ending ((ending ≡ Ok tt) × OutputsText (out_known out) (out_known out') (whole x)))
  complete no_write =
      Tells-weaker _ _ (shelf_known shelf) (shelf_known shelf') loads
      (λ p q is x gives. elim (outcome_or_memory reading outcome p q is) [
        | inl memory ↦ inl (ends_memory Write outcome ending ends memory)
        | inr same ↦ inr (
            let P : Result T ScheduleFault → Type 0 = λ v. WritesOutcome whole front v ending out_known out out' in
            all_written whole front x ending out_known out out' (subst P (same ∙ gives) writes) (λ e. no_write (write_cause.once e)))
      ])

-- ---- the run, by how it ends

pub is_read : (fault : ScheduleFault) → (let ended : Result (Unit {0}) Fault = Err (fault_of_schedule fault) in ended ≡ Err Read) → fault ≡ schedule.Read
is_read schedule.NoMemory is = cc
is_read (schedule.Line l r) is = cc
is_read schedule.Read is = refl

pub read_is : (fault : ScheduleFault) → fault ≡ schedule.Read → (let ended : Result (Unit {0}) Fault = Err (fault_of_schedule fault) in ended ≡ Err Read)
read_is fault is = ap (λ f. Err (fault_of_schedule f)) is

not_write : (fault : ScheduleFault) → (let ended : Result (Unit {0}) Fault = Err (fault_of_schedule fault) in ended ≡ Err Write) → ⊥
not_write schedule.NoMemory is = cc
not_write (schedule.Line l r) is = cc
not_write schedule.Read is = cc

module _ {T S O : Type 0} (reading : ShelfReading T) (is_sound : T → Type 0) (whole front : T → List ℕ → Type 0) (shelf_known : S → Known Files) (shelf shelf' : S) (out_known : O → Known Output) where
  -- a run, by what came of it and what it wrote
  run_by : (ending : Result (Unit {0}) Fault) (out out' : O) (outcome : Result T ScheduleFault) → ReadBy reading outcome (shelf_known shelf) (shelf_known shelf') → IfOk outcome is_sound → WritesOutcome whole front outcome ending out_known out out'
      → HasCause (shelf_known shelf) (shelf_known shelf') (ending ≡ Err Read) → HasCause (out_known out) (out_known out') (ending ≡ Err Write)
      → ScheduleRun reading is_sound whole front ending shelf_known shelf shelf' out_known out out'
  run_by ending out out' outcome loads sound writes read_cause write_cause = record {
    outcome = outcome;
    loads = loads;
    sound = sound;
    writes = writes;
    exactly = exactly reading is_sound whole front ending shelf_known shelf shelf' out_known out out' outcome loads writes write_cause;
    complete = complete reading is_sound whole front ending shelf_known shelf shelf' out_known out out' outcome loads writes write_cause;
    read_cause = read_cause;
    write_cause = write_cause;
  }

  -- nothing was read, and nothing is written
  pub refused_run : (fault : ScheduleFault) (out : O) → ReadBy reading (Err fault) (shelf_known shelf) (shelf_known shelf')
      → HasCause (shelf_known shelf) (shelf_known shelf') (fault ≡ schedule.Read)
      → ScheduleRun reading is_sound whole front (Err (fault_of_schedule fault)) shelf_known shelf shelf' out_known out out
  refused_run fault out comes cause =
      run_by (Err (fault_of_schedule fault)) out out (Err fault) comes tt (refl, refl)
      (counts_as (is_read fault) (read_is fault) cause) (counts_none (not_write fault) refl)

  module _ (x : T) (sound : is_sound x) (comes : ReadBy reading (Ok x) (shelf_known shelf) (shelf_known shelf')) (same : (shelf_known shelf').faults ≡ (shelf_known shelf).faults) (out out' : O) where
    -- a write failed
    pub cut_run : OutputsText (out_known out) (out_known out') (front x) → HasFailed (out_known out) (out_known out') → ScheduleRun reading is_sound whole front (Err Write) shelf_known shelf shelf' out_known out out'
    cut_run written once = run_by (Err Write) out out' (Ok x) comes sound (refl, written) (counts_none (λ is. cc) same) (counts_one refl once)

    pub whole_run : OutputsText (out_known out) (out_known out') (whole x) → (out_known out').faults ≡ (out_known out).faults → ScheduleRun reading is_sound whole front (Ok tt) shelf_known shelf shelf' out_known out out'
    whole_run written still = run_by (Ok tt) out out' (Ok x) comes sound written (counts_none (λ is. cc) same) (counts_none (λ is. cc) still)
