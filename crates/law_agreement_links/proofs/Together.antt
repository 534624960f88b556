-- The report of several paths is that of one modulator.
use Rattle.law_delivery.specs.OtherCarry.{under}
use Rattle.law_paths.specs.Laws.{ReportsDeliveries}
use Rattle.report_journal.specs.Report.{word_for}
use Rattle.law_agreement.specs.Laws.{TwoModulators}
use Rattle.law_agreement_links.specs.Paths.{of_paths, PathsAreAModulator, PathsAgree}

pub paths_are : ReportsDeliveries → PathsAreAModulator
paths_are law by received r limits is plan how receives =
    let reports = law (under how.carry plan) by how.first_frame how.arrivals received r.text r.clean receives.valid limits receives.delivery is in
    record { feed = 1; steps = reports.steps; given = reports.given; word = word_for by.frame_limit reports.many; text_is = reports.text_is; clean_is = reports.clean_is }

pub paths_agree : PathsAreAModulator → TwoModulators → PathsAgree
paths_agree are modulators by received r other limits is headline = modulators (of_paths by received r) other (are by received r limits is) headline
