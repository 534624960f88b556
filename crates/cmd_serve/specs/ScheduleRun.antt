-- A run that reads a schedule from the shelf and writes what becomes of it.
use Rattle.std.specs.Prelude.{ℕ, ◌≡◌, ◌⊎◌, List, Result, Ok, Err, IfOk}
use Rattle.drm_links.specs.Known.{HasFailed, Known, HasCause}
use Rattle.drm_links.specs.Shelf.{Files, ShelfSupplies}
use Rattle.drm_links.specs.Sink.{Output, OutputsText}
use Rattle.cmd_load.specs.Loading.{ShelfReading, ReadBy}
use Rattle.cmd_load.specs.Faults.{fault_of_schedule}
use Rattle.cmd_load.specs.declared.loading.ScheduleFault.{ScheduleFault}
use Rattle.cmd_faults.specs.Fault.{UnlessMemory}
use Rattle.cmd_faults.specs.declared.fault.Fault.{Fault}
use Rattle.cmd_faults.specs.declared.fault.Fault.TheVariants.{Read, Write}

-- What out gets: the whole text of what came, or after a failed write a front of it; after another fault nothing.
abbrev pub WritesOutcome : {T O : Type 0} → (T → List ℕ → Type 0) → (T → List ℕ → Type 0) → Result T ScheduleFault → Result (Unit {0}) Fault → (O → Known Output) → O → O → Type 0
WritesOutcome whole front (Ok x) (Ok done) known old new = OutputsText (known old) (known new) (whole x)
WritesOutcome whole front (Ok x) (Err fault) known old new = (fault ≡ Write) × OutputsText (known old) (known new) (front x)
WritesOutcome whole front (Err fault) ending known old new = (ending ≡ Err (fault_of_schedule fault)) × (new ≡ old)

-- A run ends by what came: done, or with this fault of the outside; or refused, with the fault that came.
abbrev pub ServeEndsBy : {T : Type 0} → Fault → Result T ScheduleFault → Result (Unit {0}) Fault → Type 0
ServeEndsBy outside (Ok x) ending = (ending ≡ Ok tt) ⊎ (ending ≡ Err outside)
ServeEndsBy outside (Err fault) ending = ending ≡ Err (fault_of_schedule fault)

-- A run with this ending, by what is read, of which `is_sound` holds, and its whole text and the fronts of it.
pub record ScheduleRun {T S O : Type 0} (reading : ShelfReading T) (is_sound : T → Type 0) (whole front : T → List ℕ → Type 0)
    (ending : Result (Unit {0}) Fault)
    (shelf_known : S → Known Files) (shelf shelf' : S)
    (out_known : O → Known Output) (out out' : O) : Type 0 where
  -- what is read, or why nothing is
  pub outcome : Result T ScheduleFault
  -- Where the shelf tells, that is what its files come to, and these loads were made.
  pub loads : ReadBy reading outcome (shelf_known shelf) (shelf_known shelf')
  -- Whatever it tells, what came is sound.
  pub sound : IfOk outcome is_sound
  pub writes : WritesOutcome whole front outcome ending out_known out out'
  -- It is refused exactly where its files are, with the line and the reason; a load fails exactly where one is to fail.
  pub exactly : ShelfSupplies (shelf_known shelf) (shelf_known shelf') (λ before _. UnlessMemory ending (ServeEndsBy Write (reading before).outcome ending))
  -- Where its files come to something and no write failed, the whole text of that is written.
  pub complete : (HasFailed (out_known out) (out_known out') → ⊥)
      → ShelfSupplies (shelf_known shelf) (shelf_known shelf') (λ before _. (x : T) → (reading before).outcome ≡ Ok x
      → UnlessMemory ending ((ending ≡ Ok tt) × OutputsText (out_known out) (out_known out') (whole x)))
  -- A count of faults rose, by one, exactly where a load or a write ended the run.
  pub read_cause : HasCause (shelf_known shelf) (shelf_known shelf') (ending ≡ Err Read)
  pub write_cause : HasCause (out_known out) (out_known out') (ending ≡ Err Write)
