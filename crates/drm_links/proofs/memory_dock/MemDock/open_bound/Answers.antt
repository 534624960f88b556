use Rattle.drm_links.proofs.DockLemmas.{leaves_known}
use Rattle.drm_links.proofs.memory_dock.MemDock.open_bound.Goals as goal

pub returns-clause-opened : goal.returns-clause-opened
returns-clause-opened c =
    leaves_known c.take_out.result c.args.at c.args.self.now c.take_out.new.self c.counted.ensures.openings c.take_out.ensures.exact
