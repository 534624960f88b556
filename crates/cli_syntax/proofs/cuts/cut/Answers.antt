use Rattle.std.proofs.Common.{arith}
use Rattle.std.proofs.lemmas.Str.Pattern.{split_parts}
use Rattle.cli_syntax.proofs.CutLemmas.{cut_from}
use Rattle.cli_syntax.proofs.cuts.cut.Goals as goal

pub returns : goal.returns
returns c = cut_from c.args.mark c.args.text.now c.split_once.result (split_parts c.args.mark c.args.text.now c.split_once.result c.split_once.ensures.cases (omega arith))
