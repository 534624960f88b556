-- The laws of any two modulators.
use Rattle.std.specs.Prelude.{ℕ, ◌↔◌, List}
use Rattle.drm_links.specs.Link.{Answer}
use Rattle.drm_schedule.specs.declared.plan.Plan.{Plan}
use Rattle.drm_schedule.specs.Valid.{IsSchedule}
use Rattle.recv_reading.specs.declared.options.ReceiveOptions.{ReceiveOptions}
use Rattle.report_text.specs.Reports.{Report}
use Rattle.recv_report.specs.Ahead.{IsReportOf}
use Rattle.recv_report.specs.Headline.{HeadlineOf}
use Rattle.law_agreement.specs.Reconfigurations.{CountsDownTo, IsInCountdown}
use Rattle.law_agreement.specs.Modulators.{Modulator, HeadlineFor, ModulatorsAgree, receiver}

-- Any two modulators agree, if the headline holds of each.
abbrev pub TwoModulators : Type 0
TwoModulators = (one other : Modulator) → HeadlineFor one → HeadlineFor other → ModulatorsAgree one other

-- A receiver of which the headline holds is a modulator of which it does.
abbrev pub ReceiversAreModulators : Type 0
ReceiversAreModulators =
    (rules : ReceiveOptions) (feed : ℕ) (answers : List Answer) (r : Report) → HeadlineOf rules feed answers r.text r.clean → HeadlineFor (receiver rules answers r)

-- Any two receivers agree: two links, two captures, two feeds of `air`, or one of each.
abbrev pub TwoReceivers : Type 0
TwoReceivers =
    (rules rules' : ReceiveOptions) (feed feed' : ℕ) (ahead ahead' : List Answer) (r r' : Report)
    → (this : IsReportOf rules feed ahead r) (that : IsReportOf rules' feed' ahead' r') → ModulatorsAgree (receiver rules this.answers r) (receiver rules' that.answers r')

-- The frames that count down to a super frame are those of the schedule's countdown to it.
abbrev pub CountdownsAreTheSchedules : Type 0
CountdownsAreTheSchedules = (plan : Plan) (start t : ℕ) → IsSchedule plan → CountsDownTo plan start t ↔ IsInCountdown plan start t
