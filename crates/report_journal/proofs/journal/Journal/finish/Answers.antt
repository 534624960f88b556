use Rattle.std.proofs.Common.{◌≡◌, ◌++◌, map, sym, ◌∙◌, ap, subst}
use Rattle.std.proofs.lemmas.Option.{IfSome_then}
use Rattle.dcp_collect.specs.CollectorState.{CollectorState, after_finish}
use Rattle.recv_reading.specs.declared.reason.EndWord.{EndWord}
use Rattle.report_text.specs.Report.{end_line}
use Rattle.report_text.specs.Reports.{refused_text}
use Rattle.report_text.specs.Tallies.{items_in}
use Rattle.report_journal.specs.Lines.{HasFed, WritesAll}
use Rattle.report_journal.specs.Journal.{JournalState, entry_of, datagrams}
use Rattle.report_journal.specs.Report.{IsReportOf, word_for}
use Rattle.report_journal.proofs.Printing.{full_fits}
use Rattle.report_journal.proofs.Keeping.{has_fed, refused_reportable, reportable_at_end, whole_report}
use Rattle.report_journal.proofs.journal.Journal.finish.Goals as goal

pub write_ready-requires-clause-fed : goal.write_ready-requires-clause-fed
write_ready-requires-clause-fed c =
    let j = c.self.inside in
    subst (λ (s : CollectorState). HasFed j.options.frame_limit s.next j.feed j.counts) (sym c.finish.ensures)
    (has_fed j.options (datagrams (map entry_of j.entries.items)) j.collector j.feed j.counts j.text.items (c.self.invariant.kept.whole c.if-self.false))

pub word_for-word-requires : goal.word_for-word-requires
word_for-word-requires c =
    let j = c.self.inside in
    full_fits j.options.frame_limit j.collector.next j.feed j.counts (IfSome_then j.options.frame_limit c.self.invariant.range.2 (λ n both. both.1))
    (has_fed j.options (datagrams (map entry_of j.entries.items)) j.collector j.feed j.counts j.text.items (c.self.invariant.kept.whole c.if-self.false))

pub new-requires : goal.new-requires
new-requires c =
    let j = c.self.inside in
    let so_far = c.self.invariant.kept.whole c.if-self.false in
    reportable_at_end j.options.frame_limit _ c.write_ready.new.collector j.feed c.write_ready.new.feed j.counts c.write_ready.new.counts j.text.items c.write_ready.new.text.items c.in_ok-write_ready.ensures.written
    (refused_reportable j.options (datagrams (map entry_of j.entries.items)) j.collector j.feed j.counts j.text.items so_far)

pub returns-clause-whole : goal.returns-clause-whole
returns-clause-whole c =
    let j = c.self.inside in
    let so_far = c.self.invariant.kept.whole c.if-self.false in
    let w = c.write_ready.new in
    let written : WritesAll j.options.frame_limit (after_finish j.collector j.options.frame_limit) w.collector j.feed w.feed j.counts w.counts j.text.items w.text.items =
    subst (λ (s : CollectorState). WritesAll j.options.frame_limit s w.collector j.feed w.feed j.counts w.counts j.text.items w.text.items) c.finish.ensures c.in_ok-write_ready.ensures.written in
    let whole = whole_report j.options (datagrams (map entry_of j.entries.items)) j.collector j.feed j.counts j.text.items so_far w.collector w.feed w.counts w.text.items c.new.result.clean written c.new.ensures.clean in
    let text : w.text.items ++ (refused_text w.counts.refused ++ end_line c.word_for-word.result w.counts.sums) ≡ w.text.items ++ (refused_text w.counts.refused ++ end_line (word_for j.options.frame_limit (items_in j.counts.sums)) w.counts.sums) =
    ap (λ (e : EndWord). w.text.items ++ (refused_text w.counts.refused ++ end_line e w.counts.sums)) c.word_for-word.ensures in
    subst (λ (s : JournalState). IsReportOf s.options (datagrams s.entries) c.new.result.text c.new.result.clean) c.self.view_is
    (subst (λ l. IsReportOf j.options (datagrams (map entry_of j.entries.items)) l c.new.result.clean) (sym (c.new.ensures.text ∙ text)) whole)
