use Rattle.std.proofs.lemmas.Bool.{le-leb}
use Rattle.drm_timeline.specs.Standing.{has_started}
use Rattle.drm_timeline.proofs.StandingLemmas.{is_last}
use Rattle.drm_timeline.proofs.configuration.last_started.Goals as goal

pub returns-then-config-sf-clause-config : goal.returns-then-config-sf-clause-config
returns-then-config-sf-clause-config c =
    is_last (has_started c.args.sf) c.args.configs.now c.loop-left.left.now c.config-item.result _ c.loop-left.invariant.1 c.in-len1-up.len_at_least
    c.config-item.is (le-leb c.config-item.result.start c.args.sf c.if-config-sf.true) c.loop-left.invariant.0
