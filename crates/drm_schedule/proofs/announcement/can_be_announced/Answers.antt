use Rattle.std.proofs.Common.{◌≡◌, take, ap, ◌∙◌}
use Rattle.drm_schedule.specs.Announcement.{free_in_countdown, announced}
use Rattle.plan_packing.proofs.PackingLemmas.{tests_all}
use Rattle.drm_schedule.proofs.announcement.can_be_announced.Goals as goal

pub returns : goal.returns
returns c =
    let is : take c.from-count.result c.free_in_countdown-free.result ≡ free_in_countdown c.args.before.now c.args.config.now =
    ap (λ n. take n c.free_in_countdown-free.result) c.from-count.ensures ∙ c.free_in_countdown-free.ensures in
    tests_all _ _ (announced c.args.config.now) _ _ c.is_some.ensures c.pack.ensures is
