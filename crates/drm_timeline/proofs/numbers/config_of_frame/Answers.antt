use Rattle.std.proofs.Common.{◌/◌, arith}
use Rattle.drm_timeline.proofs.FilesReach.{files_reach, frame_reached}
use Rattle.drm_timeline.proofs.numbers.config_of_frame.Goals as goal

pub returns-clause-files : goal.returns-clause-files
returns-clause-files c =
    let s = c.standing in
    frame_reached c.args.t s.result.now (omega (arith, s.ensures.started))
    (files_reach c.args.plan.now (c.args.t / 3) c.args.plan.now.configs s.result.now c.always_valid.ensures.faultless (omega (arith, c.requires)) s.ensures.config)
