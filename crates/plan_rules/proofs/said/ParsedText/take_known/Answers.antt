use Rattle.std.proofs.Common.{◌∙◌, sym, map}
use Rattle.plan_grammar.specs.Says.{line_said}
use Rattle.plan_lines.proofs.CleanLemmas.{clean}
use Rattle.plan_rules.specs.Rules.{reads_as, version_in}
use Rattle.plan_rules.proofs.StepLemmas.{ends_early, gives_keyword, gives_fits}
use Rattle.plan_rules.proofs.said.ParsedText.take_known.Goals as goal

pub returns-then-ends_incomplete-clause-steps : goal.returns-then-ends_incomplete-clause-steps
returns-then-ends_incomplete-clause-steps c =
    let early = ends_early c.args.self.now c.args.n c.args.keyword (line_said (reads_as (version_in c.args.self.now.front)) c.args.keyword c.args.line.now (map (λ w. w.now) c.args.words.now)) (sym c.ends_incomplete.ensures ∙ c.if-ends_incomplete.true) in
    rw (c.fault_at_line.ensures, c.current_line.ensures) early

pub returns-clause-kept : goal.returns-clause-kept
returns-clause-kept c = λ first is single fits.
    let words = map (λ w. w.now) c.args.words.now in
    let in_lines = gives_fits c.reads_as.result c.args.keyword c.args.line.now words c.read_line-read.result (clean c.args.line.now first words c.utf8.line single is) c.read_line-read.ensures in
    let keyword = gives_keyword c.reads_as.result c.args.keyword c.args.line.now words c.read_line-read.result c.read_line-read.ensures in
    c.judge.ensures.kept in_lines keyword fits
