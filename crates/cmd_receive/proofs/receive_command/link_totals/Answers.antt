use Rattle.std.proofs.Common.{◌∙◌, ap, subst, Err}
use Rattle.std.proofs.lemmas.Result.{err_from_is_err_and}
use Rattle.drm_links.proofs.KnownLemmas.{counts_as}
use Rattle.recv_report.specs.Received.{LinkReportEnds, rules_of}
use Rattle.recv_report.specs.declared.one_receiver.Options.{Options}
use Rattle.recv_report.proofs.ReceiverLemmas.{rules_are, receiver_ready}
use Rattle.cmd_faults.specs.declared.fault.Fault.TheVariants as faults
use Rattle.cmd_faults.proofs.CauseLemmas.{inner_fault}
use Rattle.cmd_receive.proofs.LiveLemmas.{not_opened, link_run}
use Rattle.cmd_receive.proofs.receive_command.link_totals.Goals as goal

pub returns-in_err-receiver : goal.returns-in_err-receiver
returns-in_err-receiver g c =
    let e = err_from_is_err_and c.from_residual.result c.from_residual.ensures.1 in
    let fault = c.in_err-receiver.field-0.0 in
    rw (e.1 ∙ ap Err e.2)
    (record {
      run = not_opened c.in_time_is_unbroken.ensures c.args.rules.now c.args.at g.D.Dock.known g.D.L.Link.known g.O.Sink.known c.args.dock.now c.open_one.new.dock c.args.out.now fault
          c.in_err-receiver.ensures.ends (λ is. c.in_err-receiver.ensures.untouched (ap Err is)) (λ is. c.in_err-receiver.ensures.failed (ap Err is))
          (λ not. c.in_err-receiver.ensures.counts_call (λ is. not (inner_fault fault faults.NoMemory is)))
          (counts_as (λ is. ap Err is) (λ is. inner_fault fault faults.Link is) c.in_err-receiver.ensures.cause);
    })

pub run_live-received-requires : goal.run_live-received-requires
run_live-received-requires g c = receiver_ready c.args.rules.now 0 c.in_ok-receiver.receiver c.requires c.in_ok-receiver.ensures.receiver

pub returns : goal.returns
returns g c =
    let rules = c.args.rules.now in
    let is = c.in_ok-receiver.ensures.receiver in
    let receiver = c.in_ok-receiver.receiver in
    let link = receiver.link in
    let link' = c.run_live-received.new.receiver.link in
    rw c.live_totals.ensures
    (record {
      run = link_run c.in_time_is_unbroken.ensures rules c.args.at g.D.Dock.known g.D.L.Link.known g.O.Sink.known c.requires c.reports_follow.ensures.headlines c.reports_follow.ensures.completes
          link link' c.args.dock.now c.open_one.new.dock c.close.new.self c.args.out.now c.run_live-received.new.out c.run_live-received.result
          c.in_ok-receiver.ensures.opened (c.in_ok-receiver.ensures.counts_call (λ e. cc))
          (subst (λ r. LinkReportEnds r 1 (g.D.L.Link.known link) (g.D.L.Link.known link') (g.O.Sink.known c.args.out.now) (g.O.Sink.known c.run_live-received.new.out) c.run_live-received.result)
          (rules_are rules 1 receiver.collector receiver.options is.collector is.options)
          (subst (λ n. LinkReportEnds (rules_of receiver.collector receiver.options) n (g.D.L.Link.known link) (g.D.L.Link.known link') (g.O.Sink.known c.args.out.now) (g.O.Sink.known c.run_live-received.new.out) c.run_live-received.result)
          (ap (λ (o : Options). o.feed) is.options) c.run_live-received.ensures.ended))
          c.run_live-received.ensures.memory c.run_live-received.ensures.write c.close.ensures.gone c.close.ensures.counts_call
          (c.close.ensures.cause ∙ c.in_ok-receiver.ensures.cause.same (λ failed. cc));
    })
