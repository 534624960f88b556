-- Runs of `receive` over one link, or from a capture, with the totals of what came.
use Rattle.std.specs.Prelude.{◌∷◌, [], IfOk, Result}
use Rattle.drm_links.specs.Known.{Known, KnownThrough}
use Rattle.drm_links.specs.Source.{Input}
use Rattle.drm_links.specs.Sink.{Output}
use Rattle.drm_links.specs.Dock.{DockContents}
use Rattle.drm_links.specs.declared.dock.Address.{Address}
use Rattle.recv_reading.specs.declared.options.ReceiveOptions.{ReceiveOptions}
use Rattle.recv_reading.specs.Source.{HeardOf}
use Rattle.drm_links.specs.Binding.{HearsEach}
use Rattle.report_text.specs.declared.totals.Totals.{Totals}
use Rattle.recv_report.specs.Received.{ReportCounted}
use Rattle.cmd_faults.specs.declared.fault.Fault.{Fault}
use Rattle.cmd_receive.specs.Receive.{ReceiveRun, AreExactly}
use Rattle.cmd_receive.specs.Capture.{CaptureRun}
use Rattle.cmd_receive.specs.Stopping.{clean_ending}

-- A run with this address. Where the dock tells, its totals are those of what was read of the link.
pub record CountedLink {D O : Type 0} (rules : ReceiveOptions) (at : Address) (counted : Result Totals Fault)
    (dock_known : D → Known DockContents) (dock dock' : D) (out_known : O → Known Output) (out out' : O) : Type 0 where
  pub receives : ReceiveRun rules (at ∷ []) (clean_ending counted) dock_known dock dock' out_known out out'
  pub totals : IfOk counted (ReportCounted rules 1 (λ answers. KnownThrough (dock_known dock) (dock_known dock') (HearsEach (AreExactly answers) (at ∷ [])))
      (out_known out) (out_known out'))

-- A run without addresses. Where the input tells, its totals are those of what was read.
pub record CountedCapture {I O : Type 0} (rules : ReceiveOptions) (counted : Result Totals Fault)
    (input_known : I → Known Input) (input input' : I) (out_known : O → Known Output) (out out' : O) : Type 0 where
  pub receives : CaptureRun rules (clean_ending counted) input_known input input' out_known out out'
  pub totals : IfOk counted (ReportCounted rules 1 (HeardOf (input_known input) (input_known input')) (out_known out) (out_known out'))
