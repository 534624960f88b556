use Rattle.drm_links.proofs.DockLemmas.{reach_fits, reached_leaves, reached_known}
use Rattle.drm_links.proofs.memory_dock.MemDock.open_reached.Goals as goal

pub count_reach-requires : goal.count_reach-requires
count_reach-requires c =
    reach_fits c.take_out-opened.result c.args.at c.args.self.now c.take_out-opened.new.self c.counted.ensures.reaches c.take_out-opened.ensures.exact

pub returns-clause-exact : goal.returns-clause-exact
returns-clause-exact c =
    reached_leaves c.take_out-opened.result c.args.at c.args.self.now c.take_out-opened.new.self c.count_reach.new.self c.take_out-opened.ensures.exact c.count_reach.ensures

pub returns-clause-opened : goal.returns-clause-opened
returns-clause-opened c =
    reached_known c.take_out-opened.result c.args.at c.args.self.now c.count_reach.new.self c.counted.ensures.openings c.counted.ensures.reaches (returns-clause-exact c)
