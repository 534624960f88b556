use Rattle.std.proofs.Common.{◌≡◌, subst, List, get_or}
use Rattle.drm_schedule.specs.declared.config.Config.{Config}
use Rattle.drm_timeline.proofs.ScheduleLemmas.{Holds, holds, sound_services}
use Rattle.drm_timeline.proofs.configuration.standing.Goals as goal

facts : (c : goal.After-get) → Holds c.args.plan.now c.args.sf c.args.plan.now.configs c.get.result.now
facts c =
    holds c.args.plan.now c.args.sf c.config_at.result c.args.plan.now.configs c.get.result.now c.always_valid.ensures.faultless
    c.always_valid.ensures.schedule.in_lines.each_config c.config_at.ensures.within
    (subst (λ (cs : List Config). c.get.result.now ≡ get_or cs c.config_at.result c.get.result.now) c.configs.ensures c.get.ensures) c.config_at.ensures.config

pub returns-clause-started : goal.returns-clause-started
returns-clause-started c = (facts c).started

pub returns-clause-services : goal.returns-clause-services
returns-clause-services c = sound_services c.get.result.now (facts c).fits (facts c).sound

pub returns-clause-room : goal.returns-clause-room
returns-clause-room c = (facts c).sound.room

pub returns-clause-packet : goal.returns-clause-packet
returns-clause-packet c = (facts c).packet
