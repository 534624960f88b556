use Rattle.std.proofs.Common.{◌≡◌}
use Rattle.drm_links.specs.Sink.{OutputsText}
use Rattle.report_text.proofs.RefusalLemmas.{IsSoFar, AreReportable}
use Rattle.report_text.proofs.counts.ReportCounts.write_refused.Given as goal

-- the lines before those that are left were written
abbrev pub invariant-loop-refusal : goal.invariant-loop-refusal
invariant-loop-refusal g l =
    OutputsText (g.O.Sink.known l.fn.out) (g.O.Sink.known l.out) (IsSoFar l.self.refused l.refusal-iterator)
    × AreReportable l.refusal-iterator
    × ((g.O.Sink.known l.out).faults ≡ (g.O.Sink.known l.fn.out).faults)
