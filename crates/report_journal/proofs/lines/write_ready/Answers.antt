use Rattle.std.proofs.lemmas.Result.{err_from_is_err_and}
use Rattle.report_text.specs.Texts.{text_known}
use Rattle.report_journal.proofs.Printing.{all_counted}
use Rattle.report_journal.proofs.lines.write_ready.Goals as goal

pub returns-then-not-is_complete-clause-first : goal.returns-then-not-is_complete-clause-first
returns-then-not-is_complete-clause-first c =
    all_counted c.args.frame_limit c.args.collector.now c.give_ready.new.collector c.args.feed.now c.give_ready.new.feed c.args.counts.now c.give_ready.new.counts (text_known c.new-lines.result) (text_known c.give_ready.new.out) c.in-Ok.ensures.prints_all

pub returns-in_err-extend_from_slice-clause-first : goal.returns-in_err-extend_from_slice-clause-first
returns-in_err-extend_from_slice-clause-first c =
    rw (err_from_is_err_and c.from_residual.result c.from_residual.ensures.1).1
    (all_counted c.args.frame_limit c.args.collector.now c.give_ready.new.collector c.args.feed.now c.give_ready.new.feed c.args.counts.now c.give_ready.new.counts (text_known c.new-lines.result) (text_known c.give_ready.new.out) c.in-Ok.ensures.prints_all)
