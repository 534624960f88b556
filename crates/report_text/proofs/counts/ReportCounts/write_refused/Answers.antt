use Rattle.std.proofs.Common.{◌≡◌, ◌∙◌, ap, refl}
use Rattle.std.proofs.lemmas.Result.{err_from_is_err_and}
use Rattle.drm_links.proofs.KnownLemmas.{done_counts}
use Rattle.drm_links.proofs.WritingLemmas.{Writes-whole, Writes-part, Writes-done, Writes-front}
use Rattle.report_text.specs.Tallies.{TallyContents}
use Rattle.report_text.specs.Reports.{refused_text}
use Rattle.report_text.proofs.RefusalLemmas.{none_refused, all_reportable, one_refused, front_refused, all_refused, next_reportable}
use Rattle.report_text.proofs.counts.ReportCounts.write_refused.Goals as goal

pub write_refused-requires : goal.write_refused-requires
write_refused-requires g c = (next_reportable c.loop-refusal.refusal-iterator c.next.new.self c.in-Some.refusal.now c.in-Some.ensures.steps c.loop-refusal.invariant.1).0

pub loop-refusal-init : goal.loop-refusal-init
loop-refusal-init g c =
    let is : c.into_iter-refusal-iterator.result ≡ c.args.self.now.refused = c.into_iter-refusal-iterator.ensures.into_iter_gives.0 ∙ ap (λ (t : TallyContents). t.refused) c.self.view_is in (
      none_refused c.args.self.now.refused c.into_iter-refusal-iterator.result (g.O.Sink.known c.args.out.now) is,
      all_reportable c.args.self.now.refused c.into_iter-refusal-iterator.result is c.requires,
      refl,
    )

pub loop-refusal-preserved : goal.loop-refusal-preserved
loop-refusal-preserved g c = (
  one_refused c.args.self.now.refused c.loop-refusal.refusal-iterator c.next.new.self c.in-Some.refusal.now (g.O.Sink.known c.args.out.now) (g.O.Sink.known c.loop-refusal.out) (g.O.Sink.known c.write_refused.new.out) c.in-Some.ensures.steps c.loop-refusal.invariant.0 (Writes-done c.in_ok-write_refused.was c.write_refused.ensures),
  (next_reportable c.loop-refusal.refusal-iterator c.next.new.self c.in-Some.refusal.now c.in-Some.ensures.steps c.loop-refusal.invariant.1).1,
  done_counts c.in_ok-write_refused.was c.write_refused.ensures.cause ∙ c.loop-refusal.invariant.2,
)

pub returns-in_err-write_refused : goal.returns-in_err-write_refused
returns-in_err-write_refused g c =
    let p = err_from_is_err_and c.from_residual.result c.from_residual.ensures.1 in
    let a = g.O.Sink.known c.args.out.now in
    let b = g.O.Sink.known c.loop-refusal.out in
    let d = g.O.Sink.known c.write_refused.new.out in
    rw p.1
    (Writes-part (refused_text c.args.self.now.refused) a b d c.write_refused.result c.in_err-write_refused.field-0.0 p.0
    (front_refused c.args.self.now.refused c.loop-refusal.refusal-iterator c.next.new.self c.in-Some.refusal.now a b d c.in-Some.ensures.steps c.loop-refusal.invariant.0 (Writes-front c.in_err-write_refused.was c.write_refused.ensures))
    c.loop-refusal.invariant.2 c.in_err-write_refused.was c.write_refused.ensures.cause)

pub returns : goal.returns
returns g c =
    let a = g.O.Sink.known c.args.out.now in
    let b = g.O.Sink.known c.loop-refusal.out in
    Writes-whole (refused_text c.args.self.now.refused) a b (all_refused c.args.self.now.refused c.loop-refusal.refusal-iterator a b c.in-None.ensures.steps.0 c.loop-refusal.invariant.0) c.loop-refusal.invariant.2
