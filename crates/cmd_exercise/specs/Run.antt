-- The command `exercise`: one line on the report of what is delivered.
use Rattle.std.specs.Prelude.{ℕ, ◌≡◌, ◌⊎◌, Bool, List, length, Result, Ok, Err}
use Rattle.drm_bits.specs.Crc.{IsCheckOf}
use Rattle.drm_links.specs.Known.{HasFailed, Known, HasCause}
use Rattle.drm_links.specs.Sink.{Output, OutputsText, IsPrefix}
use Rattle.report_text.specs.Reports.{Report}
use Rattle.cmd_air.specs.Air.{IsAired}
use Rattle.cmd_faults.specs.Fault.{UnlessMemory}
use Rattle.cmd_faults.specs.declared.fault.Fault.{Fault}
use Rattle.cmd_faults.specs.declared.fault.Fault.TheVariants as faults
use Rattle.cmd_exercise.specs.Exercise.{plan, deliveries, line}

-- the packets of the window
abbrev pub window : ℕ
window = 8

-- The line on the report of a receiver to which the datagrams of the exercise came.
pub record IsExercise (n : ℕ) (r : Report) (text : List ℕ) : Type 0 where
  pub aired : IsAired (plan n) window 1 (deliveries n) r
  pub check : ℕ
  pub checks : IsCheckOf r.text check
  pub text_is : text ≡ line n (length (deliveries n)) r.text check

-- What is written: the line; after a failed write a front of it; where memory is wanting, nothing.
abbrev pub WritesLine : {O : Type 0} → ℕ → Result Bool Fault → (O → Known Output) → O → O → Type 0
WritesLine n (Ok clean) known out out' =
    (r : Report) × (whole : List ℕ) × IsExercise n r whole × OutputsText (known out) (known out') (λ text. text ≡ whole) × (clean ≡ r.clean)
WritesLine n (Err faults.Write) known out out' =
    (r : Report) × (whole : List ℕ) × IsExercise n r whole × OutputsText (known out) (known out') (IsPrefix whole)
WritesLine n (Err fault) known out out' = out' ≡ out

-- A run of `exercise`.
pub record ExerciseRun {O : Type 0} (n : ℕ) (ending : Result Bool Fault) (known : O → Known Output) (out out' : O) : Type 0 where
  pub writes : WritesLine n ending known out out'
  -- It ends well, or for want of memory or by a failed write.
  pub kind : (fault : Fault) → ending ≡ Err fault → (fault ≡ faults.NoMemory) ⊎ (fault ≡ faults.Write)
  -- After want of memory nothing was written.
  pub untouched : ending ≡ Err faults.NoMemory → out' ≡ out
  -- Where no write failed, the line is written.
  pub complete : (HasFailed (known out) (known out') → ⊥) → UnlessMemory ending ((clean : Bool) × (ending ≡ Ok clean))
  -- Out's count of faults rose, by one, exactly where a write ended the run.
  pub write_cause : HasCause (known out) (known out') (ending ≡ Err faults.Write)
