use Rattle.std.proofs.Common.{◌/◌, ap, subst}
use Rattle.drm_schedule.specs.declared.plan.Plan.{Plan}
use Rattle.drm_server.specs.Placed.{PlacedFrame}
use Rattle.drm_compare.specs.Agreement.{IsAgreement}
use Rattle.drm_compare.proofs.Counted.{counted}
use Rattle.drm_compare.proofs.comparison.agreement.Goals as goal

pub returns : goal.returns
returns c =
    let h = c.same_frames.ensures in
    subst (λ (other : Plan). IsAgreement c.args.plan.now other (c.same_frames.result / 3)) (ap (λ (x : PlacedFrame). x.plan) c.in_ok-theirs.ensures)
    (subst (λ (plan : Plan). IsAgreement plan c.in_ok-theirs.theirs.plan (c.same_frames.result / 3)) (ap (λ (x : PlacedFrame). x.plan) c.in_ok-mine.ensures)
    (counted c.in_ok-mine.mine.plan c.in_ok-theirs.theirs.plan c.same_frames.result h.within h.within_other h.same h.first_other))
