-- From the headline of a run to its modulators.
use Rattle.std.specs.Prelude.{ℕ, ◌+◌, List, map, slice_index_or, None, Some, Ok}
use Rattle.drm_links.specs.Link.{Answer, Datagram}
use Rattle.drm_links.proofs.KnownLemmas.{Tells-weaker, InputsBytes-weaker}
use Rattle.recv_reading.specs.declared.options.ReceiveOptions.{ReceiveOptions}
use Rattle.recv_reading.specs.Values.{receive_options}
use Rattle.report_text.specs.Reports.{Report}
use Rattle.cmd_receive.specs.Receive.{AreReports, WritesReports}
use Rattle.cmd_receive.specs.Capture.{WritesReport}
use Rattle.cmd_air.specs.Air.{air_rules}
use Rattle.drm_words.specs.declared.request.Request.{Request}
use Rattle.drm_words.specs.declared.request.Request.TheVariants.{Receive, Air}
use Rattle.law_agreement.specs.Modulators.{Modulator, HeadlineFor, ModulatorsAgree, receiver}
use Rattle.law_agreement.specs.Laws.{TwoModulators, ReceiversAreModulators}
use Rattle.law_agreement_runs.specs.Runs.{KnownRun, OfReceiver, OfEachAddress, OfCapture, OfEachModulator, RunsHaveModulators, TwoRuns}

-- what follows of P is true of each, if P is
of_receiver : (P Q : Modulator → Type 0) → ((m : Modulator) → P m → Q m) → (rules : ReceiveOptions) (feed : ℕ) (ahead : List Answer) (r : Report) → OfReceiver rules feed ahead r P → OfReceiver rules feed ahead r Q
of_receiver P Q weaker rules feed ahead r is = record { reports = is.reports; holds = weaker (receiver rules is.reports.answers r) is.holds }

of_each : (P Q : Modulator → Type 0) → ((m : Modulator) → P m → Q m) → (request : Request) (o : KnownRun) → OfEachModulator request o P → OfEachModulator request o Q
of_each P Q weaker (Receive (Some addresses) window reach first frames idle limit) o is =
    let rules : ReceiveOptions = receive_options window reach first frames idle limit in
    Tells-weaker (λ contents _. OfEachAddress rules contents addresses o.out P) (λ contents _. OfEachAddress rules contents addresses o.out Q) (o.dock.known o.dock.before) (o.dock.known o.dock.after) is
    (λ contents _ of. record {
      reports = of.reports;
      as_many = of.as_many;
      written = of.written;
      each = λ k at none within.
          let (start, found, it) = of.each k at none within in
          (start, found, of_receiver P Q weaker rules (k + 1) start.ahead (slice_index_or of.reports k none) it);
    })
of_each P Q weaker (Receive None window reach first frames idle limit) o is =
    let rules : ReceiveOptions = receive_options window reach first frames idle limit in
    InputsBytes-weaker (λ left _. OfCapture rules left o.out P) (λ left _. OfCapture rules left o.out Q) (o.input.known o.input.before) (o.input.known o.input.after) is
    (λ left _ of. record { ahead = of.ahead; brings = of.brings; report = of.report; written = of.written; is = of_receiver P Q weaker rules 1 of.ahead of.report of.is })
of_each P Q weaker (Air name script window) o is = record {
  plan = is.plan;
  valid = is.valid;
  between = is.between;
  schedule = is.schedule;
  feeds = is.feeds;
  deliveries = is.deliveries;
  reports = is.reports;
  as_many = is.as_many;
  written = is.written;
  each = λ k feed none within.
      let (datagrams, sent, it) = is.each k feed none within in
      (datagrams, sent, of_receiver P Q weaker (air_rules is.plan window) (k + 1) (map Datagram datagrams) (slice_index_or is.reports k none) it);
}
of_each P Q weaker _ o is = tt

-- the headline holds of each
pub runs_have_modulators : ReceiversAreModulators → RunsHaveModulators
runs_have_modulators law (Receive (Some addresses) window reach first frames idle limit) clean o is =
    let rules : ReceiveOptions = receive_options window reach first frames idle limit in
    Tells-weaker (λ contents _. WritesReports (AreReports rules contents addresses) (Ok clean) o.out.known o.out.before o.out.after)
    (λ contents _. OfEachAddress rules contents addresses o.out HeadlineFor) (o.dock.known o.dock.before) (o.dock.known o.dock.after) is
    (λ contents _ (reports, are, written, cleans). record {
      reports = reports;
      as_many = are.as_many;
      written = written;
      each = λ k at none within.
          let (start, found, it) = are.each k at none within in
          (start, found, record { reports = it; holds = law rules (k + 1) it.answers (slice_index_or reports k none) it.headline });
    })
runs_have_modulators law (Receive None window reach first frames idle limit) clean o is =
    let rules : ReceiveOptions = receive_options window reach first frames idle limit in
    InputsBytes-weaker (λ left _. WritesReport rules left clean o.out.known o.out.before o.out.after) (λ left _. OfCapture rules left o.out HeadlineFor) (o.input.known o.input.before) (o.input.known o.input.after) is
    (λ left _ (ahead, brings, report, of, written, cleans). record {
      ahead = ahead;
      brings = brings;
      report = report;
      written = written;
      is = record { reports = of; holds = law rules 1 of.answers report of.headline };
    })
runs_have_modulators law (Air name script window) clean o is =
    let (reports, are, written, cleans) = is.wrote in
    record {
      plan = is.plan;
      valid = is.valid;
      between = o.shelf.known is.between;
      schedule = is.schedule;
      feeds = is.feeds;
      deliveries = is.deliveries;
      reports = reports;
      as_many = are.as_many;
      written = written;
      each = λ k feed none within.
          let it = are.each k feed none within in (
            it.datagrams,
            it.sent,
            record { reports = it.report; holds = law (air_rules is.plan window) (k + 1) it.report.answers (slice_index_or reports k none) it.report.headline },
          );
    }
runs_have_modulators law _ clean o is = tt

pub two_runs : TwoModulators → RunsHaveModulators → TwoRuns
two_runs modulators have request request' clean clean' o o' is is' =
    of_each HeadlineFor (λ one. OfEachModulator request' o' (λ other. ModulatorsAgree one other))
    (λ one headline. of_each HeadlineFor (λ other. ModulatorsAgree one other) (λ other headline'. modulators one other headline headline') request' o' (have request' clean' o' is'))
    request o (have request clean o is)
