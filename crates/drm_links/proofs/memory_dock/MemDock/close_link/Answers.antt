use Rattle.std.proofs.Common.{arith}
use Rattle.drm_links.proofs.memory_dock.MemDock.close_link.Goals as goal

pub returns-else-len-lt-MOST_CLOSED-clause-exact : goal.returns-else-len-lt-MOST_CLOSED-clause-exact
returns-else-len-lt-MOST_CLOSED-clause-exact c = rw (← c.self.view_is) (λ few. absurd (omega arith))
