-- Texts in memory, as sinks.
use Rattle.drm_links.specs.Known.{Known, contents_for}
use Rattle.drm_links.specs.Sink.{Output}
use Rattle.report_text.specs.declared.buffer.ReportBuffer.{ReportBuffer}

-- what is known of it: all that was written, for its first 2^62 calls
abbrev pub text_known : ReportBuffer → Known Output
text_known t = record { faults = t.faults; contents = contents_for t.calls (record { written = t.bytes.items; calls = t.calls }) }
