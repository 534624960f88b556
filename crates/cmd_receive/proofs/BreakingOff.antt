-- A link that gives a report doesn't break off.
use Rattle.std.proofs.Common.{◌≡◌, ℕ, ◌⊎◌, inl, inr, subst}
use Rattle.drm_links.specs.Dock.{DockContents, LinkStart, OpeningFinds, FindsNone}
use Rattle.drm_links.specs.declared.dock.Address.{Address}
use Rattle.drm_links.specs.Hearing.{AreNext}
use Rattle.recv_reading.specs.declared.options.ReceiveOptions.{ReceiveOptions}
use Rattle.report_text.specs.Reports.{Report}
use Rattle.recv_reading.specs.OneReading.{BreaksOff}
use Rattle.recv_report.specs.Ahead.{IsReportOf}
use Rattle.recv_reading.proofs.OneReading.{finished_whole}
use Rattle.drm_links.proofs.BindLemmas.{found_once, is_found}

-- a link that gives a report neither fails to open nor breaks off
pub report_whole : (rules : ReceiveOptions) (contents : DockContents) (k number : ℕ) (at : Address) (start : LinkStart) (r : Report) → OpeningFinds contents k at start → IsReportOf rules number start.ahead r
    → FindsNone contents k at ⊎ ((other : LinkStart) × OpeningFinds contents k at other × BreaksOff rules other.ahead) → ⊥
report_whole rules contents k number at start r finds report (inl none) = is_found contents k at start finds none
report_whole rules contents k number at start r finds report (inr (other, found, breaks)) =
    let same : other ≡ start = found_once contents k at other start found finds in
    finished_whole rules start.ahead report.rest breaks.rest report.answers breaks.before breaks.answers report.is.word report.next
    (subst (λ s. AreNext s.ahead breaks.answers breaks.rest) same breaks.next) report.is.reading breaks.reading
