use Rattle.drm_plan.proofs.PlanLemmas.{plan_fits}
use Rattle.drm_plan.proofs.projection.make_draft.Goals as goal

pub new-requires : goal.new-requires
new-requires c =
    let fits = plan_fits c.args.read c.requires.whole.block c.requires.in_lines c.requires.whole.last c.requires.whole.complete in
    rw (c.carry-carry.ensures, c.seq-seq.ensures, c.dlfc-dlfc.ensures, c.length-length.ensures, c.as_slice-front.ensures, c.in_ok-lists.ensures, c.in_ok-blocks.ensures) fits
