use Rattle.drm_links.proofs.LinkLemmas.{rest_known}
use Rattle.drm_links.proofs.memory_link.MemLinkLink.rest.Goals as goal

pub returns-clause-rested : goal.returns-clause-rested
returns-clause-rested c =
    rest_known c.args.millis c.args.self.now c.wait.new.self c.counted.ensures c.ranges.millis.fits c.wait.ensures
