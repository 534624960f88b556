-- The command `count`: it receives as `receive` does, and in place of the report its line is written.
use Rattle.std.specs.Prelude.{ℕ, ◌≡◌, ◌⊎◌, Bool, List, [], ◌∷◌, codes, decimal, None, Result, Ok, Err}
use Rattle.std.specs.List.{concat}
use Rattle.drm_links.specs.Known.{Known, HasCause}
use Rattle.drm_links.specs.Source.{Input}
use Rattle.drm_links.specs.Sink.{Output, OutputsText, IsPrefix}
use Rattle.drm_links.specs.Dock.{DockContents}
use Rattle.drm_links.specs.declared.dock.Address.{Address}
use Rattle.recv_reading.specs.declared.options.ReceiveOptions.{ReceiveOptions}
use Rattle.report_text.specs.declared.totals.Totals.{Totals}
use Rattle.report_text.specs.Totals.{are_clean}
use Rattle.cmd_receive.specs.Counted.{CountedLink, CountedCapture}
use Rattle.cmd_faults.specs.declared.fault.Fault.{Fault}
use Rattle.cmd_faults.specs.declared.fault.Fault.TheVariants as faults
use Rattle.cmd_count.specs.declared.command.Discard.{Discard}

-- the sink that the report goes to: no write fails, and what was written isn't told
abbrev pub unseen : Discard → Known Output
unseen sink = record { faults = 0; contents = None }

abbrev pub count_line : Totals → List ℕ
count_line t = concat (
    codes "count given " ∷ decimal t.sums.given ∷ codes " missing " ∷ decimal t.sums.missing ∷ codes " bad " ∷ decimal t.sums.bad
    ∷ codes " refused " ∷ decimal t.sums.refused ∷ codes " kept " ∷ decimal t.answers.kept ∷ codes " repeated " ∷ decimal t.answers.repeated
    ∷ codes " late " ∷ decimal t.answers.late ∷ codes "\n" ∷ []
    )

-- The line is written, or after a failed write a front of it. Where nothing was counted nothing is written.
abbrev pub WritesLine : {O : Type 0} → Result Totals Fault → Result Bool Fault → (O → Known Output) → O → O → Type 0
WritesLine (Ok totals) ending known out out' =
    ((ending ≡ Ok (are_clean totals)) × OutputsText (known out) (known out') (λ text. text ≡ count_line totals))
    ⊎ ((ending ≡ Err faults.Write) × OutputsText (known out) (known out') (IsPrefix (count_line totals)))
WritesLine (Err fault) ending known out out' = (ending ≡ Err fault) × (out' ≡ out)

-- It ends as what was counted did, unless a write failed.
pub record EndsCount {O : Type 0} (counted : Result Totals Fault) (ending : Result Bool Fault) (known : O → Known Output) (out out' : O) : Type 0 where
  pub line : WritesLine counted ending known out out'
  pub cause : HasCause (known out) (known out') (ending ≡ Err faults.Write)

-- A run of `count` with an address: a run of `receive` with it, whose report goes nowhere.
pub record CountRun {D O : Type 0} (options : ReceiveOptions) (at : Address) (ending : Result Bool Fault)
    (dock_known : D → Known DockContents) (dock dock' : D) (out_known : O → Known Output) (out out' : O) : Type 0 where
  pub counted : Result Totals Fault
  pub sink : Discard
  pub reads : CountedLink options at counted dock_known dock dock' unseen sink sink
  pub ends : EndsCount counted ending out_known out out'

-- A run of `count` without one.
pub record CountCaptureRun {I O : Type 0} (options : ReceiveOptions) (ending : Result Bool Fault)
    (input_known : I → Known Input) (input input' : I) (out_known : O → Known Output) (out out' : O) : Type 0 where
  pub counted : Result Totals Fault
  pub sink : Discard
  pub reads : CountedCapture options counted input_known input input' unseen sink sink
  pub ends : EndsCount counted ending out_known out out'
