-- What a receiver of a capture does.
use Rattle.std.specs.Prelude.{◌≡◌, Result, Ok, Err}
use Rattle.drm_links.specs.Known.{Known}
use Rattle.drm_links.specs.Source.{Input}
use Rattle.drm_links.specs.Sink.{Output}
use Rattle.recv_reading.specs.Source.{HeardOf, HeardUntil}
use Rattle.recv_reading.specs.declared.options.ReceiveOptions.{ReceiveOptions}
use Rattle.recv_report.specs.Received.{ReportCounted, ReportBroken, ReportStopped}
use Rattle.report_text.specs.declared.totals.Totals.{Totals}
use Rattle.recv_report.specs.declared.capture.CaptureReportError.{CaptureReportError}
use Rattle.recv_report.specs.declared.capture.CaptureReportError.TheVariants as unfinished

-- What each ending says, as for a link: the report was written, or what was given before the reading stopped, or a front.
abbrev pub EndsReceiving : ReceiveOptions → Known Input → Known Input → Known Output → Known Output → Result Totals CaptureReportError → Type 0
EndsReceiving rules before after a b (Ok totals) = ReportCounted rules 1 (HeardOf before after) a b totals
EndsReceiving rules before after a b (Err (unfinished.Stopped stop)) = ReportBroken rules 1 (HeardUntil stop before after) a b
EndsReceiving rules before after a b (Err unfinished.Write) = ReportStopped rules 1 (HeardOf before after) a b
EndsReceiving rules before after a b (Err unfinished.NoMemory) = (after ≡ before) × (b ≡ a)
