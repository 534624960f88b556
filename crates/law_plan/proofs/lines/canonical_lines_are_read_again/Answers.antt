use Rattle.std.proofs.Common.{[], ◌∷◌, sym, ap, ◌∙◌}
use Rattle.std.proofs.lemmas.List.{append-nil}
use Rattle.text_lines.specs.Lines.{lines_of}
use Rattle.text_lines.proofs.LineLaws.{lines_again}
use Rattle.plan_grammar.specs.Said.{canonical, line_text}
use Rattle.plan_grammar.proofs.SaidAgain.{said_again}
use Rattle.plan_rows.proofs.TokenLemmas.{lacks_from}
use Rattle.law_plan.proofs.lines.canonical_lines_are_read_again.Goals as goal

pub returns : goal.returns
returns c = λ l fits.
    let again = said_again l fits in
    record {
      one_line = ap lines_of (sym (append-nil (line_text l))) ∙ lines_again (canonical l ∷ []) (lacks_from 10 (canonical l) again.one_line, tt);
      words = again.words;
      cut = again.cut;
      says = again.said;
    }
