use Rattle.cli_syntax.proofs.ArgumentLemmas.{one_option}
use Rattle.cli_syntax.proofs.arguments.read_arguments.Goals as goal

pub loop-text-preserved : goal.loop-text-preserved
loop-text-preserved c = one_option _ _ _ _ _ _ c.in-Option.option c.loop-text.invariant c.in-Option.ensures.0 c.in_ok-push-in-Option.ensures.items
