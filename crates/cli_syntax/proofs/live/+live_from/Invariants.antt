use Rattle.std.proofs.Common.{length}
use Rattle.cli_syntax.proofs.live.+live_from.Given as goal

abbrev pub decreases-live_from : goal.decreases-live_from
decreases-live_from l = length l.parts.now
