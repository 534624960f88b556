-- The command `pack`: the units of an input become packets.
use Rattle.std.specs.Prelude.{ℕ, ◌≡◌, ◌↔◌, List, Result, Ok, Err}
use Rattle.drm_links.specs.Known.{HasFailed, Known, HasCause}
use Rattle.drm_links.specs.Source.{Input, InputsBytes}
use Rattle.drm_links.specs.Sink.{Output, OutputsText, IsPrefix}
use Rattle.cmd_faults.specs.Fault.{UnlessMemory}
use Rattle.cmd_faults.specs.declared.units.UnitsFault.{UnitsFault}
use Rattle.cmd_faults.specs.declared.fault.Fault.{Fault}
use Rattle.cmd_faults.specs.declared.fault.Fault.TheVariants as faults
use Rattle.cmd_pack.specs.Units.{UnitsComeTo}
use Rattle.cmd_pack.specs.Input.{ReadsFile}
use Rattle.cmd_input.specs.Input.{FailsBehind}
use Rattle.cmd_pack.specs.Packed.{ArePacked}

-- what comes of the bytes that were read
abbrev pub JudgesInput : List ℕ → Result (Unit {0}) Fault → Type 0
JudgesInput bytes (Ok done) = (units : List (List ℕ)) × UnitsComeTo bytes (Ok units)
JudgesInput bytes (Err (faults.Units fault)) = UnitsComeTo bytes (Err fault)
JudgesInput bytes (Err fault) = ⊥

-- What is read and what is written: the packets of all units, or after a failed write a front of them; where a read failed, where
-- the input isn't a list of units, and where memory is wanting, nothing.
abbrev pub PackEnds : {O : Type 0} → ℕ → ℕ → Result (Unit {0}) Fault → Known Input → Known Input → (O → Known Output) → O → O → Type 0
PackEnds id d (Ok done) before after known out out' =
    (bytes : List ℕ) × ReadsFile bytes before after × (units : List (List ℕ)) × UnitsComeTo bytes (Ok units)
    × OutputsText (known out) (known out') (ArePacked id d units)
PackEnds id d (Err faults.Write) before after known out out' =
    (bytes : List ℕ) × ReadsFile bytes before after × (units : List (List ℕ)) × UnitsComeTo bytes (Ok units)
    × (text : List ℕ) × ArePacked id d units text × OutputsText (known out) (known out') (IsPrefix text)
PackEnds id d (Err (faults.Units fault)) before after known out out' =
    (bytes : List ℕ) × ReadsFile bytes before after × UnitsComeTo bytes (Err fault) × (out' ≡ out)
PackEnds id d (Err faults.Read) before after known out out' = FailsBehind 16777217 before after × (out' ≡ out)
PackEnds id d (Err faults.NoMemory) before after known out out' = (after ≡ before) × (out' ≡ out)
PackEnds id d (Err fault) before after known out out' = ⊥

-- how a run can end early
abbrev pub CanEndPacking : Fault → Type 0
CanEndPacking faults.NoMemory = Unit {0}
CanEndPacking (faults.Units fault) = Unit {0}
CanEndPacking faults.Read = Unit {0}
CanEndPacking faults.Write = Unit {0}
CanEndPacking fault = ⊥

-- A run of `pack`.
pub record PackRun {I O : Type 0} (id d : ℕ) (ending : Result (Unit {0}) Fault)
    (input_known : I → Known Input) (input input' : I)
    (out_known : O → Known Output) (out out' : O) : Type 0 where
  -- It ends well, or for want of memory, by what is wrong with the units, by a failed read or by a failed write.
  pub kind : (fault : Fault) → ending ≡ Err fault → CanEndPacking fault
  pub ends : PackEnds id d ending (input_known input) (input_known input') out_known out out'
  -- After want of memory nothing was read or written.
  pub untouched : ending ≡ Err faults.NoMemory → (input' ≡ input) × (out' ≡ out)
  -- Units are refused exactly where the input has this fault first, unless a read failed before.
  pub exactly : (ending ≡ Err faults.Read → ⊥)
      → InputsBytes (input_known input) (input_known input') (λ left _.
      UnlessMemory ending ((fault : UnitsFault) → (ending ≡ Err (faults.Units fault)) ↔ UnitsComeTo left (Err fault)))
  -- Where no read and no write failed, and the input is units, their packets are written.
  pub complete : (HasFailed (input_known input) (input_known input') → ⊥) → (HasFailed (out_known out) (out_known out') → ⊥)
      → InputsBytes (input_known input) (input_known input') (λ left _. (units : List (List ℕ)) → UnitsComeTo left (Ok units)
      → UnlessMemory ending ((ending ≡ Ok tt) × OutputsText (out_known out) (out_known out') (ArePacked id d units)))
  -- A count of faults rose, by one, exactly where a read or a write ended the run.
  pub read_cause : HasCause (input_known input) (input_known input') (ending ≡ Err faults.Read)
  pub write_cause : HasCause (out_known out) (out_known out') (ending ≡ Err faults.Write)
