use Rattle.drm_links.proofs.LinkLemmas.{carries_known}
use Rattle.drm_links.proofs.memory_link.MemLinkLink.send.Goals as goal

pub returns-clause-gone : goal.returns-clause-gone
returns-clause-gone c =
    carries_known c.carry.result c.args.bytes.now c.args.self.now c.carry.new.self c.counted.ensures c.carry.ensures.exact
