use Rattle.std.proofs.Common.{◌≡◌, ℕ, ◌<◌, List, length, slice_index_or, sym, ◌∙◌, ap, subst}
use Rattle.std.specs.List.{All}
use Rattle.drm_links.specs.MemoryLink.{LinkState, link_known}
use Rattle.drm_schedule.specs.Valid.{IsSchedule}
use Rattle.recv_report.specs.declared.receiver.Receiver.{Receiver}
use Rattle.recv_report.specs.Receivers.{HasReceiverEnded, IsReceiverReady}
use Rattle.recv_report.specs.Settling.{ReceiversSettle}
use Rattle.cmd_air.specs.Air.{air_rules}
use Rattle.drm_links.proofs.KnownLemmas.{counts_as}
use Rattle.cmd_receive.specs.Stopping.{ending_of}
use Rattle.cmd_receive.proofs.ReceiveLemmas.{Ran, written_back, write_is}
use Rattle.recv_report.proofs.ReceiverLemmas.{receivers_ready}
use Rattle.recv_report.proofs.Composing.{DeliveryLaws}
use Rattle.cmd_air.proofs.AirLemmas.{air_in_range, aired, kind_by}
use Rattle.cmd_air.proofs.air_command.air_over.Goals as goal

pub returns : goal.returns
returns g c =
    let laws = c.laws_of_deliveries.ensures in
    let of_deliveries : DeliveryLaws = record {
      whole = laws.delivering;
      early = laws.early;
      refused = laws.refused;
      all_frames = laws.all_frames;
      items = record { in_time = laws.in_time; at_starts = laws.at_starts; all_switches = laws.all_switches; lines = laws.lines };
    } in
    let plan = c.args.plan.now in
    let feeds = c.args.script.now in
    let valid : IsSchedule plan = c.always_valid.ensures.schedule in
    let before : List (Receiver LinkState) = c.in_ok-receivers.receivers.items in
    let after : List (Receiver LinkState) = c.run_all.new.receivers in
    let value : c.as_mut_slice.result.now ≡ before = c.as_mut_slice.ensures.value in
    let size : length before ≡ length feeds = ap length (sym value) ∙ c.as_mut_slice.ensures.len ∙ c.in_ok-receivers.ensures.same_count in
    let still : length after ≡ length before = c.run_all.auto.receivers ∙ ap length value in
    let E : List (Receiver LinkState) → Type 0 = λ xs. (k : ℕ) (d : Receiver LinkState) → k < length xs → HasReceiverEnded link_known (slice_index_or xs k d) (slice_index_or after k d) in
    let ran : Ran link_known (air_rules plan c.args.window) (length feeds) before after =
    record { size = size; still = still; receivers = c.in_ok-receivers.ensures.receivers; ended = subst E value c.run_all.ensures } in
    let same : c.as_slice.result.now ≡ after = written_back c.in_ok-receivers.receivers.len after before c.as_slice.result.now (sym (still ∙ ap length (sym value) ∙ c.as_mut_slice.ensures.len)) c.as_slice.ensures.value in
    let settled : ReceiversSettle after c.settle.result g.O.Sink.known c.args.out.now c.settle.new.out =
    subst (λ (receivers : List (Receiver LinkState)). ReceiversSettle receivers c.settle.result g.O.Sink.known c.args.out.now c.settle.new.out) same c.settle.ensures.settles in
    record {
      writes = rw c.ending.ensures
          (aired plan c.args.window valid c.requires.at_least_one c.requires.within_limit c.reports_follow.ensures.headlines c.reports_follow.ensures.completes feeds c.requires.feeds before after ran c.in_ok-receivers.ensures.feeds
          c.one_run.ensures of_deliveries c.settle.result g.O.Sink.known c.args.out.now c.settle.new.out settled);
      kind = rw c.ending.ensures
          (kind_by plan c.args.window valid c.requires.at_least_one c.requires.within_limit c.reports_follow.ensures.headlines c.reports_follow.ensures.completes feeds c.requires.feeds before after ran c.in_ok-receivers.ensures.feeds
          c.settle.result g.O.Sink.known c.args.out.now c.settle.new.out settled);
      cause = counts_as (λ is. write_is c.settle.result (sym c.ending.ensures ∙ is)) (λ is. c.ending.ensures ∙ ap ending_of is) c.settle.ensures.cause;
    }

pub run_all-requires-after_bounds : goal.run_all-requires-after_bounds
run_all-requires-after_bounds g c = λ lifetimes within.
    let plan = c.args.plan.now in
    let receivers : List (Receiver LinkState) = c.in_ok-receivers.receivers.items in
    subst (λ (xs : List (Receiver LinkState)). All IsReceiverReady xs) (sym c.as_mut_slice.ensures.value)
    (receivers_ready (air_rules plan c.args.window) receivers (length c.args.script.now) (air_in_range plan c.args.window c.always_valid.ensures.schedule c.requires.at_least_one c.requires.within_limit)
    (ap length (sym c.as_mut_slice.ensures.value) ∙ c.as_mut_slice.ensures.len ∙ c.in_ok-receivers.ensures.same_count) c.in_ok-receivers.ensures.receivers)
