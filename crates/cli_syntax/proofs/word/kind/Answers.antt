use Rattle.std.proofs.Common.{lit<, sym, None}
use Rattle.std.proofs.lemmas.Str.Pattern.{strip_prefix_char}
use Rattle.cli_syntax.proofs.WordLemmas.{kind-undashed}
use Rattle.cli_syntax.proofs.word.kind.Goals as goal

pub returns-in-None : goal.returns-in-None
returns-in-None c = sym (kind-undashed c.args.word.now (strip_prefix_char 45 c.args.word.now None c.in-None.ensures.cases (lit< tt)))
