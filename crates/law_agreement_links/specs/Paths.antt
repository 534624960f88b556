-- A modulator that receives over several paths.
use Rattle.std.specs.Prelude.{ℕ, List}
use Rattle.recv_reading.specs.declared.options.PacketRange.{PacketRange}
use Rattle.recv_reading.specs.Options.{IsWithinLimits}
use Rattle.report_text.specs.Reports.{Report}
use Rattle.report_journal.specs.Report.{IsReportOf}
use Rattle.law_agreement.specs.Modulators.{Modulator, HeadlineFor, ModulatorsAgree}

-- the modulator for which the report of several paths stands: that of all that arrived over them, in the order in which it did
abbrev pub of_paths : PacketRange → List (List ℕ) → Report → Modulator
of_paths by received r = record { range = by; received = received; report = r }

-- The headline holds of it.
abbrev pub PathsAreAModulator : Type 0
PathsAreAModulator = (by : PacketRange) (received : List (List ℕ)) (r : Report) → IsWithinLimits by → IsReportOf by received r.text r.clean → HeadlineFor (of_paths by received r)

-- So it agrees with any other modulator: with a receiver, or with one that receives over several paths, too.
abbrev pub PathsAgree : Type 0
PathsAgree =
    (by : PacketRange) (received : List (List ℕ)) (r : Report) (other : Modulator) → IsWithinLimits by → IsReportOf by received r.text r.clean → HeadlineFor other
    → ModulatorsAgree (of_paths by received r) other
