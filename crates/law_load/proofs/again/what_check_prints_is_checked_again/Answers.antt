use Rattle.law_load.proofs.AgainLaw.{schedule_has, schedule_comes, canonical_checked, printed_checked}
use Rattle.law_load.proofs.again.what_check_prints_is_checked_again.Goals as goal

pub returns : goal.returns
returns c = record { on_the_shelf = schedule_has; comes = schedule_comes; canonical = canonical_checked; printed = printed_checked }
