use Rattle.std.proofs.Common.{◌≡◌, ◌++◌, ap, subst, List, ℕ}
use Rattle.std.proofs.lemmas.Result.{err_from_is_err_and}
use Rattle.drm_links.specs.Sink.{OutputsText, IsPrefix}
use Rattle.drm_links.proofs.KnownLemmas.{OutputsText-weaker}
use Rattle.drm_links.proofs.WritingLemmas.{Writes-done, Writes-front, front_more, front_then}
use Rattle.report_text.specs.Report.{end_line}
use Rattle.report_text.specs.Reports.{refused_text, Report}
use Rattle.report_journal.proofs.ending.Ending.write.Goals as goal

pub returns-in_err-write_refused-clause-front : goal.returns-in_err-write_refused-clause-front
returns-in_err-write_refused-clause-front g c =
    let p = err_from_is_err_and c.from_residual-in_err-write_refused.result c.from_residual-in_err-write_refused.ensures.1 in
    let e = c.self.inside in
    let a = g.O.Sink.known c.args.out.now in
    let b = g.O.Sink.known c.write_all.new.out in
    let d = g.O.Sink.known c.write_refused.new.out in
    let refused : List ℕ = refused_text e.counts.refused in
    let end : List ℕ = end_line e.word e.counts.sums in
    let first : OutputsText a b (λ x. x ≡ e.text.items) = subst (λ l. OutputsText a b (λ x. x ≡ l)) c.deref.ensures.value (Writes-done c.in_ok-write_all.was c.write_all.ensures) in
    let front : OutputsText b d (IsPrefix (refused ++ end)) = OutputsText-weaker (IsPrefix refused) (IsPrefix (refused ++ end)) b d (Writes-front c.in_err-write_refused.was c.write_refused.ensures) (λ x f. front_more refused end x f) in
    rw p.1 (subst (λ l. OutputsText a d (IsPrefix l)) (ap (λ (r : Report). r.text) c.self.view_is) (front_then e.text.items (refused ++ end) a b d first front))

pub returns-in_err-write_end-clause-front : goal.returns-in_err-write_end-clause-front
returns-in_err-write_end-clause-front g c =
    let p = err_from_is_err_and c.from_residual-in_err-write_end.result c.from_residual-in_err-write_end.ensures.1 in
    let e = c.self.inside in
    let a = g.O.Sink.known c.args.out.now in
    let b = g.O.Sink.known c.write_all.new.out in
    let d = g.O.Sink.known c.write_refused.new.out in
    let h = g.O.Sink.known c.write_end.new.out in
    let refused : List ℕ = refused_text e.counts.refused in
    let end : List ℕ = end_line e.word e.counts.sums in
    let first : OutputsText a b (λ x. x ≡ e.text.items) = subst (λ l. OutputsText a b (λ x. x ≡ l)) c.deref.ensures.value (Writes-done c.in_ok-write_all.was c.write_all.ensures) in
    let front : OutputsText b h (IsPrefix (refused ++ end)) = front_then refused end b d h (Writes-done c.in_ok-write_refused.was c.write_refused.ensures) (Writes-front c.in_err-write_end.was c.write_end.ensures) in
    rw p.1 (subst (λ l. OutputsText a h (IsPrefix l)) (ap (λ (r : Report). r.text) c.self.view_is) (front_then e.text.items (refused ++ end) a b h first front))
