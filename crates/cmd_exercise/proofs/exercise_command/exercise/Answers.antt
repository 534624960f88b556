use Rattle.std.proofs.Common.{◌≡◌, ◌∷◌, [], length, Ok, Err, IsSome, sym, ◌∙◌, ap, subst, rules}
use Rattle.std.specs.Prelude.{slice_index_or}
use Rattle.std.proofs.lemmas.Result.{err_from_is_err_and}
use Rattle.drm_bits.specs.Crc.{IsCheckOf}
use Rattle.drm_links.proofs.KnownLemmas.{done_counts, failed_counts}
use Rattle.drm_links.proofs.WritingLemmas.{Writes-done, Writes-front}
use Rattle.report_text.specs.Texts.{text_known}
use Rattle.cmd_receive.specs.Receive.{WritesReports}
use Rattle.cmd_air.specs.Air.{AreAired, AreFeeds}
use Rattle.cmd_exercise.specs.Exercise.{plan, deliveries}
use Rattle.cmd_exercise.proofs.Counting.{are_feeds}
use Rattle.cmd_exercise.proofs.Running.{HasReport, has_report, is_done, is_cut}
use Rattle.cmd_exercise.proofs.exercise_command.exercise.Goals as goal

pub air_over-requires-clause-feeds : goal.air_over-requires-clause-feeds
air_over-requires-clause-feeds g c = λ lifetimes within.
    subst (λ p. AreFeeds p c.in_ok-script.script) (sym c.in_ok-plan.ensures)
    (subst (AreFeeds (plan c.args.n)) (sym c.in_ok-script.ensures) (are_feeds c.args.n c.requires.within_limit))

pub returns-in_err-write_line : goal.returns-in_err-write_line
returns-in_err-write_line g c =
    let n = c.args.n in
    let p = err_from_is_err_and c.from_residual-in_err-write_line.result c.from_residual-in_err-write_line.ensures.1 in
    let has_contents : IsSome (text_known c.air_over.new.out).contents = c.is_complete.ensures.0 (search rules) in
    let writes : WritesReports (AreAired (plan n) 8 (deliveries n ∷ [])) (Ok c.in-Ok.clean) text_known c.new-report.result c.air_over.new.out =
    subst (λ s. WritesReports (AreAired (plan n) 8 s) (Ok c.in-Ok.clean) text_known c.new-report.result c.air_over.new.out) c.in_ok-script.ensures
    (subst (λ p. WritesReports (AreAired p 8 c.in_ok-script.script) (Ok c.in-Ok.clean) text_known c.new-report.result c.air_over.new.out) c.in_ok-plan.ensures c.in-Ok.ensures.writes) in
    let has : HasReport n c.in-Ok.clean c.air_over.new.out.bytes.items = has_report n c.in-Ok.clean c.new-report.result c.air_over.new.out c.new-report.ensures has_contents writes in
    let same : c.deliveries.result.now ≡ deliveries n = c.deliveries.ensures ∙ ap (λ s. slice_index_or s 0 c.deliveries.result.now) c.in_ok-script.ensures in
    let checks : IsCheckOf c.bytes-2.result.now c.crc16.result = record { narrow = c.crc16.type_inv; is = c.crc16.ensures.check } in
    record {
      run = rw (p.1 ∙ ap Err p.2)
          (is_cut n g.O.Sink.known c.args.out.now c.in-Ok.clean c.bytes.result.now (length c.deliveries.result.now) c.crc16.result c.write_line.new.out
          (subst (HasReport n c.in-Ok.clean) (sym c.bytes.ensures) has) (ap length same) (subst (λ t. IsCheckOf t c.crc16.result) (c.bytes-2.ensures ∙ sym c.bytes.ensures) checks)
          (Writes-front c.in_err-write_line.was c.write_line.ensures) (failed_counts c.in_err-write_line.was c.write_line.ensures.cause));
    }

pub returns : goal.returns
returns g c =
    let n = c.args.n in
    let has_contents : IsSome (text_known c.air_over.new.out).contents = c.is_complete.ensures.0 (search rules) in
    let writes : WritesReports (AreAired (plan n) 8 (deliveries n ∷ [])) (Ok c.in-Ok.clean) text_known c.new-report.result c.air_over.new.out =
    subst (λ s. WritesReports (AreAired (plan n) 8 s) (Ok c.in-Ok.clean) text_known c.new-report.result c.air_over.new.out) c.in_ok-script.ensures
    (subst (λ p. WritesReports (AreAired p 8 c.in_ok-script.script) (Ok c.in-Ok.clean) text_known c.new-report.result c.air_over.new.out) c.in_ok-plan.ensures c.in-Ok.ensures.writes) in
    let has : HasReport n c.in-Ok.clean c.air_over.new.out.bytes.items = has_report n c.in-Ok.clean c.new-report.result c.air_over.new.out c.new-report.ensures has_contents writes in
    let same : c.deliveries.result.now ≡ deliveries n = c.deliveries.ensures ∙ ap (λ s. slice_index_or s 0 c.deliveries.result.now) c.in_ok-script.ensures in
    let checks : IsCheckOf c.bytes-2.result.now c.crc16.result = record { narrow = c.crc16.type_inv; is = c.crc16.ensures.check } in
    record {
      run = is_done n g.O.Sink.known c.args.out.now c.in-Ok.clean c.bytes.result.now (length c.deliveries.result.now) c.crc16.result c.write_line.new.out
          (subst (HasReport n c.in-Ok.clean) (sym c.bytes.ensures) has) (ap length same) (subst (λ t. IsCheckOf t c.crc16.result) (c.bytes-2.ensures ∙ sym c.bytes.ensures) checks)
          (Writes-done c.in_ok-write_line.was c.write_line.ensures) (done_counts c.in_ok-write_line.was c.write_line.ensures.cause);
    }
