-- The command `fac`: the nine bytes of a FAC become one line.
use Rattle.std.specs.Prelude.{ℕ, ◌≡◌, ◌<◌, ◌⊎◌, ◌↔◌, List, length, Result, Ok, Err}
use Rattle.drm_fac.specs.declared.fac.Fac.{Fac}
use Rattle.drm_fac.specs.Fac.{IsFac}
use Rattle.drm_fac.specs.Fault.{IsCrcFault}
use Rattle.drm_links.specs.Known.{HasFailed, Known, HasCause}
use Rattle.drm_links.specs.Source.{Input, InputsBytes}
use Rattle.drm_links.specs.Sink.{Output, OutputsText, IsPrefix}
use Rattle.cmd_show.specs.Input.{ReadsHead, FailsWithin}
use Rattle.report_text.specs.FacLine.{fac_line}
use Rattle.cmd_faults.specs.Fault.{status_of}
use Rattle.cmd_faults.specs.declared.fault.Fault.{Fault}
use Rattle.cmd_faults.specs.declared.fault.Fault.TheVariants.{FacLength, FacOver, FacCrc, Read, Write}

-- What the bytes of an input come to: the FAC that they are, or the fault that refuses them.
abbrev pub FacComesTo : List ℕ → Result Fac Fault → Type 0
FacComesTo bytes (Ok fac) = IsFac fac bytes
FacComesTo bytes (Err (FacLength n)) = (length bytes ≡ n) × (n < 9)
FacComesTo bytes (Err FacOver) = 9 < length bytes
FacComesTo bytes (Err (FacCrc stands computed)) = IsCrcFault bytes stands computed
FacComesTo bytes (Err fault) = ⊥

-- What is read: unless a read fails, a head of the input, and what it comes to.
abbrev pub ReadsFac : Result Fac Fault → Known Input → Known Input → Type 0
ReadsFac (Err Read) before after = (taken : ℕ) × FailsWithin taken before after
ReadsFac outcome before after = (head : List ℕ) × ReadsHead head before after × FacComesTo head outcome

-- What out gets: the line of the FAC that was read, or after a failed write a front of it; after another fault nothing.
abbrev pub WritesOutcome : {O : Type 0} → Result Fac Fault → Result (Unit {0}) Fault → (O → Known Output) → O → O → Type 0
WritesOutcome (Ok fac) (Ok done) known old new = OutputsText (known old) (known new) (λ text. text ≡ fac_line fac)
WritesOutcome (Ok fac) (Err Write) known old new = OutputsText (known old) (known new) (IsPrefix (fac_line fac))
WritesOutcome (Ok fac) (Err fault) known old new = ⊥
WritesOutcome (Err fault) ending known old new = (ending ≡ Err fault) × (new ≡ old)

-- A run of `fac` with this ending.
pub record FacRun {I O : Type 0} (ending : Result (Unit {0}) Fault)
    (input_known : I → Known Input) (input input' : I)
    (out_known : O → Known Output) (out out' : O) : Type 0 where
  pub outcome : Result Fac Fault
  pub reads : ReadsFac outcome (input_known input) (input_known input')
  pub writes : WritesOutcome outcome ending out_known out out'
  -- What the input comes to is what was read, unless a read failed.
  pub only : InputsBytes (input_known input) (input_known input') (λ left rest. (other : Result Fac Fault) → FacComesTo left other → (outcome ≡ other) ⊎ (outcome ≡ Err Read))
  -- It is refused exactly where the input is no FAC, unless a read failed.
  pub refused : (status_of ending ≡ 4 → ⊥)
      → InputsBytes (input_known input) (input_known input') (λ left _. (status_of ending ≡ 3) ↔ ((fac : Fac) → IsFac fac left → ⊥))
  -- Where the input is a FAC and neither side failed, its line is written.
  pub complete : (HasFailed (input_known input) (input_known input') → ⊥) → (HasFailed (out_known out) (out_known out') → ⊥)
      → InputsBytes (input_known input) (input_known input') (λ left _. (fac : Fac) → IsFac fac left
      → (ending ≡ Ok tt) × OutputsText (out_known out) (out_known out') (λ text. text ≡ fac_line fac))
  -- A count of faults rose, by one, exactly where a read or a write ended the run.
  pub read_cause : HasCause (input_known input) (input_known input') (ending ≡ Err Read)
  pub write_cause : HasCause (out_known out) (out_known out') (ending ≡ Err Write)
