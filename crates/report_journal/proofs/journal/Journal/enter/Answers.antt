use Rattle.std.proofs.Common.{◌≡◌, false, length, map, sym, ◌∙◌, ap, subst, arith}
use Rattle.std.proofs.lemmas.List.{length-map}
use Rattle.law_collect.proofs.Fit.{fit_taken}
use Rattle.recv_reading.proofs.Reaching.{takes_next, takes_end}
use Rattle.report_text.specs.Tallies.{TallyContents, items_in}
use Rattle.report_text.proofs.TakenLemmas.{noted_items}
use Rattle.report_journal.specs.Journal.{JournalState, entry_of, datagrams, IsKept, JournalEnters}
use Rattle.report_journal.proofs.Keeping.{many_answered, has_fed, as_many, entered, enters, goes_on}
use Rattle.report_journal.proofs.journal.Journal.enter.Goals as goal

pub note-requires : goal.note-requires
note-requires c =
    let j = c.self.inside in
    let es = map entry_of j.entries.items in
    let all = many_answered j.options (datagrams es) j.collector j.feed j.counts j.text.items (c.self.invariant.kept.whole c.if-self.false) in
    let size : length es ≡ length j.entries.items = length-map j.entries.items entry_of in
    omega (arith, all, as_many es, size, c.len.ensures, c.if-len-ge-MOST_ENTRIES.false, j.entries.ok)

pub write_ready-written-requires-clause-fed : goal.write_ready-written-requires-clause-fed
write_ready-written-requires-clause-fed c =
    let j = c.self.inside in
    let fed = has_fed j.options (datagrams (map entry_of j.entries.items)) j.collector j.feed j.counts j.text.items (c.self.invariant.kept.whole c.if-self.false) in
    let next = takes_next j.collector c.take-taken.new.self c.args.datagram.now c.take-taken.result c.take-taken.ensures.takes in
    let same = ap (λ (t : TallyContents). items_in t.sums) c.note.ensures ∙ noted_items j.counts c.len-number.result c.take-taken.result in
    record { counted = same ∙ fed.counted; within = fed.within; in_order = λ room. fed.in_order room ∙ sym next }

pub invariant_of-self-2 : goal.invariant_of-self-2
invariant_of-self-2 c =
    let j = c.self.inside in
    let w = c.write_ready-written.new in
    let r = c.write_ready-written.result in
    let es = map entry_of j.entries.items in
    let number : c.len-number.result ≡ length es = (let is = c.len-number.ensures in let ok = j.entries.ok in let size : length es ≡ length j.entries.items = length-map j.entries.items entry_of in omega (arith, is, ok, size)) in
    let open_ = c.self.invariant.goes_on c.if-self.false in
    let takes = c.take-taken.ensures.takes in
    let fit = fit_taken j.collector c.take-taken.new.self c.args.datagram.now c.take-taken.result (λ k. (c.type_inv.datagram k).fits) takes open_.fit in
    let s : JournalState = record { entries = map entry_of c.push_entry.new.entries.items; options = j.options; collector = w.collector; feed = w.feed; tally = w.counts; text = w.text.items; stopped = c.is_err-self-inside.result } in
    let kept = entered j.options es (map entry_of c.push_entry.new.entries.items) c.args.path c.args.datagram.now j.collector c.take-taken.new.self w.collector j.feed w.feed j.counts c.note.new.self w.counts j.text.items w.text.items c.take-taken.result c.len-number.result
    (c.self.invariant.kept.whole c.if-self.false) c.in-Ok.ensures.pushed number takes c.note.ensures r fit c.write_ready-written.ensures.written c.write_ready-written.ensures.none in
    record {
      range = c.self.invariant.range;
      kept = subst (λ b. IsKept (record s { stopped = b })) (sym c.is_err-self-inside.ensures.value) kept;
      goes_on = goes_on s c.take-taken.new.self j.feed c.note.new.self j.text.items r c.is_err-self-inside.ensures.value fit
          (takes_end j.collector c.take-taken.new.self c.args.datagram.now c.take-taken.result takes ∙ open_.unfinished) c.write_ready-written.ensures.written;
    }

pub returns-clause-took : goal.returns-clause-took
returns-clause-took c =
    let j = c.self.inside in
    let w = c.write_ready-written.new in
    let r = c.write_ready-written.result in
    let es = map entry_of j.entries.items in
    let s : JournalState = record { entries = map entry_of c.push_entry.new.entries.items; options = j.options; collector = w.collector; feed = w.feed; tally = w.counts; text = w.text.items; stopped = c.is_err-self-inside.result } in
    let number : c.len-number.result ≡ length es = (let is = c.len-number.ensures in let ok = j.entries.ok in let size : length es ≡ length j.entries.items = length-map j.entries.items entry_of in omega (arith, is, ok, size)) in
    let before : JournalState = record { entries = es; options = j.options; collector = j.collector; feed = j.feed; tally = j.counts; text = j.text.items; stopped = false } in
    let after = enters j.options es (map entry_of c.push_entry.new.entries.items) c.args.path c.args.datagram.now j.collector c.take-taken.new.self w.collector j.feed w.feed j.counts c.note.new.self w.counts j.text.items w.text.items c.take-taken.result c.len-number.result
    (c.self.invariant.kept.whole c.if-self.false) c.in-Ok.ensures.pushed number c.take-taken.ensures.takes c.note.ensures r c.write_ready-written.ensures.written c.write_ready-written.ensures.none c.write_ready-written.ensures.first in
    let was : before ≡ c.args.self.now = ap (λ b. record before { stopped = b }) (sym c.if-self.false) ∙ c.self.view_is in
    subst (λ (x : JournalState). JournalEnters x (c.args.path, c.args.datagram.now) c.take-taken.result s) was
    (subst (λ b. JournalEnters before (c.args.path, c.args.datagram.now) c.take-taken.result (record s { stopped = b })) (sym c.is_err-self-inside.ensures.value) after)
