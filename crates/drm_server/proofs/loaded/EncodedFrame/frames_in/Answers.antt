use Rattle.std.proofs.Common.{ℕ, ◌+◌, ◌<◌, ap, subst}
use Rattle.drm_schedule.specs.declared.plan.Plan.{Plan}
use Rattle.drm_timeline.specs.Numbers.{frame_count}
use Rattle.drm_server.specs.ServerState.{ServerState}
use Rattle.drm_server.specs.Stretch.{first_in}
use Rattle.drm_server.proofs.loaded.EncodedFrame.frames_in.Goals as goal

pub returns-clause-within : goal.returns-clause-within
returns-clause-within c =
    let base = ap (λ (s : ServerState). s.base) c.self.view_is in
    subst (λ (p : Plan). (n : ℕ) → n < c.frames.result → first_in c.args.stretch + n < frame_count p) base c.frames.ensures.within
