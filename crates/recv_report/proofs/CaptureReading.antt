-- A report of a capture, whatever its reader holds in the end.
use Rattle.std.proofs.Common.{◌≡◌, List, ap, subst, ◌∙◌}
use Rattle.recv_reading.proofs.Common.{Known, Answer, Input, Output, CollectorState, made, bounds_of, options_of}
use Rattle.recv_reading.specs.declared.options.ReceiveOptions.{ReceiveOptions}
use Rattle.recv_reading.specs.declared.options.Bounds.{Bounds}
use Rattle.recv_reading.specs.declared.source.SourceFault.TheVariants as source
use Rattle.recv_reading.specs.Source.{ReadSoFar, HeardOf, HeardUntil, StopsReading}
use Rattle.capture_reader.specs.Walking.{WalkerState}
use Rattle.capture_reader.specs.declared.packets.CaptureStop.{CaptureStop}
use Rattle.report_text.specs.declared.totals.Totals.{Totals}
use Rattle.recv_report.specs.declared.reading.ReceiveFault.{ReceiveFault}
use Rattle.recv_report.specs.declared.reading.ReceiveFault.TheVariants as fault
use Rattle.recv_report.specs.Received.{ReportCounted, ReportBroken, ReportStopped}
use Rattle.recv_report.specs.Progress.{StopsReport}

-- the totals of what was heard, heard in another way
pub heard_as : (options : ReceiveOptions) (so_far hears : List Answer → Type 0) (a b : Known Output) (totals : Totals) (r : ReportCounted options 1 so_far a b totals) → hears r.written.answers → ReportCounted options 1 hears a b totals
heard_as options so_far hears a b totals r heard =
    let w = r.written in
    record { written = record { answers = w.answers; heard = heard; few = w.few; at_once = w.at_once; whole = w.whole; is = w.is; text = w.text }; are = r.are; all = r.all }

module _ (rules : ReceiveOptions) (c : CollectorState) (bounds : Bounds) (new : c ≡ made rules.window rules.reach rules.first) (by : bounds ≡ bounds_of rules) (reader : WalkerState) (before after : Known Input) (a b : Known Output) where
  same : options_of c bounds ≡ rules
  same = ap (λ (s : CollectorState). options_of s bounds) new ∙ ap (options_of (made rules.window rules.reach rules.first)) by

  pub as_reported : (totals : Totals) → ReportCounted (options_of c bounds) 1 (ReadSoFar reader before after) a b totals → ReportCounted rules 1 (HeardOf before after) a b totals
  as_reported totals r =
      let s = subst (λ o. ReportCounted o 1 (ReadSoFar reader before after) a b totals) same r in
      heard_as rules (ReadSoFar reader before after) (HeardOf before after) a b totals s (reader, s.written.heard)

  abbrev pub Stops : ReceiveFault → Type 0
  Stops why = StopsReport (options_of c bounds) 1 (ReadSoFar reader before after) (λ source. StopsReading source before after) a b why

  pub as_broken : (why : ReceiveFault) (stop : CaptureStop) → why ≡ fault.Source (source.Capture stop) → Stops why → ReportBroken rules 1 (HeardUntil stop before after) a b
  as_broken why stop is stops = subst (λ o. ReportBroken o 1 (HeardUntil stop before after) a b) same (subst Stops is stops)

  pub as_stopped : (why : ReceiveFault) → why ≡ fault.Write → Stops why → ReportStopped rules 1 (HeardOf before after) a b
  as_stopped why is stops =
      let r = subst (λ o. ReportStopped o 1 (ReadSoFar reader before after) a b) same (subst Stops is stops) in
      record { answers = r.answers; heard = (reader, r.heard); few = r.few; at_once = r.at_once; goes_on = r.goes_on; text = r.text }
