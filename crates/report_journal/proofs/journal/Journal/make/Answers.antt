use Rattle.std.proofs.Common.{refl}
use Rattle.report_journal.proofs.Keeping.{sound_new}
use Rattle.report_journal.proofs.journal.Journal.make.Goals as goal

pub invariant_of-result : goal.invariant_of-result
invariant_of-result c = sound_new _ c.requires c.new-2.ensures.items c.in_ok-collector.ensures c.new-3.ensures c.in_ok-counts.ensures c.in_ok-text.ensures refl
