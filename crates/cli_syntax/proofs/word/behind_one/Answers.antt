use Rattle.std.proofs.Common.{lit<, sym, None}
use Rattle.std.proofs.lemmas.Str.Pattern.{strip_prefix_char}
use Rattle.cli_syntax.proofs.WordLemmas.{behind_one-undashed}
use Rattle.cli_syntax.proofs.word.behind_one.Goals as goal

pub returns-in-None : goal.returns-in-None
returns-in-None c =
    sym (behind_one-undashed c.args.rest.now _ c.is_empty.ensures c.if-is_empty.false (strip_prefix_char 45 c.args.rest.now None c.in-None.ensures.cases (lit< tt)))
