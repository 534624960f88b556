use Rattle.mdi_items.proofs.MdiLemmas.{only_frame, only_fault}
use Rattle.mdi_items.proofs.view.read_mdi.Goals as goal

pub returns-clause-only : goal.returns-clause-only
returns-clause-only c = only_frame c.read_whole.result c.args.payload.now c.read_whole.ensures.read c.read_whole.ensures.fault

pub returns-clause-named : goal.returns-clause-named
returns-clause-named c = only_fault c.read_whole.result c.args.payload.now c.read_whole.ensures.read c.read_whole.ensures.fault
