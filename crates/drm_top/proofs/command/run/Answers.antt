use Rattle.std.proofs.Common.{◌∙◌, sym, ap, subst, Ok, Err}
use Rattle.cmd_faults.specs.declared.fault.Fault.{Fault}
use Rattle.cmd_faults.specs.declared.fault.Fault.TheVariants as faults
use Rattle.cmd_faults.specs.Fault.{clean_status, WritesLine}
use Rattle.drm_links.proofs.KnownLemmas.{counts_as}
use Rattle.cmd_faults.proofs.CauseLemmas.{one_failed_as, opening_as}
use Rattle.cmd_faults.proofs.StatusLemmas.{one_is_memory, two_is_words, four_is_read, five_is_write, six_is_link}
use Rattle.cmd_faults.specs.Lines.{fault_line}
use Rattle.drm_top.specs.Outside.{outside}
use Rattle.drm_top.proofs.CommandLemmas.{done_reports, fault_reports, by_status, to_status}
use Rattle.drm_top.proofs.HeadlineLemmas.{headline_of, not_a_fault}
use Rattle.drm_top.proofs.command.run.Goals as goal

-- ---- the runs

pub returns-in-Ok-true-clause-runs : goal.returns-in-Ok-true-clause-runs
returns-in-Ok-true-clause-runs g c = λ request asked. (
  Ok c.in-Ok-true.field-0,
  c.execute.new.err_ok,
  c.execute.new.err,
  (sym (ap clean_status c.in-Ok-true.field-0-test), done_reports c.execute.new.err_ok c.in-Ok-true.field-0 g.E.Sink.known c.execute.new.err),
  c.in-Ok-true.ensures.runs request asked,
)

pub returns-in-Ok-false-clause-runs : goal.returns-in-Ok-false-clause-runs
returns-in-Ok-false-clause-runs g c = λ request asked. (
  Ok c.in-Ok-false.field-0,
  c.execute.new.err_ok,
  c.execute.new.err,
  (sym (ap clean_status c.in-Ok-false.field-0-test), done_reports c.execute.new.err_ok c.in-Ok-false.field-0 g.E.Sink.known c.execute.new.err),
  c.in-Ok-false.ensures.runs request asked,
)

pub returns-in-Err-clause-runs : goal.returns-in-Err-clause-runs
returns-in-Err-clause-runs g c = λ request asked. (
  Err c.in-Err.fault,
  c.execute.new.err_ok,
  c.execute.new.err,
  (c.report_if.ensures.status, fault_reports c.execute.new.err_ok c.in-Err.fault g.E.Sink.known c.execute.new.err c.report_if.new.err c.report_if.ensures.line c.report_if.ensures.still),
  c.in-Err.ensures.runs request asked,
)

pub returns-in-Err-clause-nothing : goal.returns-in-Err-clause-nothing
returns-in-Err-clause-nothing g c = λ none.
    let refused = c.in-Err.ensures.nothing none in (
      Err c.in-Err.fault,
      (c.report_if.ensures.status, subst (λ e. WritesLine (fault_line c.in-Err.fault) g.E.Sink.known e c.report_if.new.err) refused.1.1 (c.report_if.ensures.line refused.1.0)),
      refused.0,
      refused.2,
    )

-- ---- the headline

pub returns-in-Ok-true-clause-headline : goal.returns-in-Ok-true-clause-headline
returns-in-Ok-true-clause-headline g c = λ request asked clean is.
    headline_of c.in-Ok-true.field-0 c.execute.new.err_ok
    (outside g.S.Shelf.known c.args.shelf.now c.execute.new.shelf g.I.Source.known c.args.input.now c.execute.new.input g.O.Sink.known c.args.out.now c.execute.new.out
    g.E.Sink.known c.args.err.now c.execute.new.err g.D.Dock.known c.args.dock.now c.execute.new.dock)
    request clean (ap clean_status c.in-Ok-true.field-0-test ∙ is) (c.in-Ok-true.ensures.runs request asked)

pub returns-in-Ok-false-clause-headline : goal.returns-in-Ok-false-clause-headline
returns-in-Ok-false-clause-headline g c = λ request asked clean is.
    headline_of c.in-Ok-false.field-0 c.execute.new.err_ok
    (outside g.S.Shelf.known c.args.shelf.now c.execute.new.shelf g.I.Source.known c.args.input.now c.execute.new.input g.O.Sink.known c.args.out.now c.execute.new.out
    g.E.Sink.known c.args.err.now c.execute.new.err g.D.Dock.known c.args.dock.now c.execute.new.dock)
    request clean (ap clean_status c.in-Ok-false.field-0-test ∙ is) (c.in-Ok-false.ensures.runs request asked)

pub returns-in-Err-clause-headline : goal.returns-in-Err-clause-headline
returns-in-Err-clause-headline g c = λ request asked clean is. absurd (not_a_fault c.in-Err.fault clean (sym c.report_if.ensures.status ∙ is))

-- ---- the statuses

pub returns-in-Err-clause-words : goal.returns-in-Err-clause-words
returns-in-Err-clause-words g c = λ two. c.in-Err.ensures.words (ap Err (two_is_words c.in-Err.fault (sym c.report_if.ensures.status ∙ two)))

pub returns-in-Err-clause-read : goal.returns-in-Err-clause-read
returns-in-Err-clause-read g c = λ unlinked.
    let fault : Fault = c.in-Err.fault in
    let status = c.report_if.ensures.status in
    one_failed_as (by_status _ fault status faults.Read four_is_read) (to_status _ fault status faults.Read four_is_read)
    (c.in-Err.ensures.read (λ is. unlinked (to_status _ fault status faults.Link six_is_link is)))

pub returns-in-Err-clause-write : goal.returns-in-Err-clause-write
returns-in-Err-clause-write g c =
    let status = c.report_if.ensures.status in
    counts_as (by_status _ c.in-Err.fault status faults.Write five_is_write) (to_status _ c.in-Err.fault status faults.Write five_is_write) c.in-Err.ensures.write

pub returns-in-Err-clause-opening : goal.returns-in-Err-clause-opening
returns-in-Err-clause-opening g c =
    opening_as (g.D.Dock.known c.args.dock.now) (g.D.Dock.known c.execute.new.dock) (to_status _ c.in-Err.fault c.report_if.ensures.status faults.Link six_is_link) c.in-Err.ensures.opening

pub returns-in-Err-clause-link : goal.returns-in-Err-clause-link
returns-in-Err-clause-link g c = λ six. c.in-Err.ensures.link (ap Err (six_is_link c.in-Err.fault (sym c.report_if.ensures.status ∙ six)))

pub returns-in-Err-clause-unsent : goal.returns-in-Err-clause-unsent
returns-in-Err-clause-unsent g c = λ one. c.in-Err.ensures.unsent (ap Err (one_is_memory c.in-Err.fault (sym c.report_if.ensures.status ∙ one)))
