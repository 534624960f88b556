use Rattle.drm_links.proofs.LinkLemmas.{hears_known}
use Rattle.drm_links.proofs.memory_link.MemLinkLink.recv.Goals as goal

pub returns-clause-answer : goal.returns-clause-answer
returns-clause-answer c =
    hears_known c.hear.result c.args.buf.now c.hear.new.buf c.args.self.now c.hear.new.self c.counted.ensures c.hear.ensures.exact
