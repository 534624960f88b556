use Rattle.std.proofs.Common.{◌≡◌, ℕ, ◌<◌, List, [], ◌∷◌, length, slice_index_or, refl, sym, ◌∙◌, ap, subst, arith, Err}
use Rattle.std.proofs.lemmas.Result.{err_from_is_err_and}
use Rattle.recv_report.specs.declared.receiver.Receiver.{Receiver}
use Rattle.recv_report.specs.Receivers.{HasReceiverEnded, IsReceiverReady}
use Rattle.recv_report.specs.Settling.{ReceiversSettle}
use Rattle.recv_report.proofs.ReceiverLemmas.{receivers_ready}
use Rattle.std.specs.List.{All}
use Rattle.std.proofs.lemmas.List.{get_or_default}
use Rattle.drm_links.specs.Known.{KnownThrough}
use Rattle.drm_links.proofs.KnownLemmas.{counts_as}
use Rattle.cmd_faults.specs.declared.fault.Fault.TheVariants as faults
use Rattle.cmd_faults.proofs.CauseLemmas.{inner_fault}
use Rattle.drm_links.proofs.BindLemmas.{docked_then, Closed}
use Rattle.cmd_receive.proofs.HearingLemmas.{link_in}
use Rattle.cmd_receive.proofs.ReceiveLemmas.{Ran, settled_hears, settled_run, opening_failed, written_back}
use Rattle.cmd_receive.proofs.LiveLemmas.{one_of}
use Rattle.cmd_receive.specs.Opening.{HaveLinks}
use Rattle.cmd_receive.specs.Receive.{IsLive, ReceiveRun}
use Rattle.cmd_receive.specs.Stopping.{clean_ending}
use Rattle.cmd_receive.proofs.receive_command.receive.Goals as goal

pub returns-in_err-receivers : goal.returns-in_err-receivers
returns-in_err-receivers g c =
    let p = err_from_is_err_and c.from_residual.result c.from_residual.ensures.1 in
    record {
      run = rw (p.1 ∙ ap Err p.2)
          (opening_failed c.in_time_is_unbroken.ensures c.args.rules.now c.args.addresses.now c.in_err-receivers.field-0.0 g.D.Dock.known c.args.dock.now c.open_all.new.dock g.O.Sink.known c.args.out.now
          c.in_err-receivers.ensures.ends c.in_err-receivers.ensures.stopped
          (counts_as (λ is. ap Err (inner_fault c.in_err-receivers.field-0.0 faults.Link is)) (λ is. ap Err (inner_fault c.in_err-receivers.field-0.0 faults.Link is)) c.in_err-receivers.ensures.cause));
    }

pub returns : goal.returns
returns g c =
    let before : List (Receiver g.row.D-L.Denot) = c.in_ok-receivers.receivers.items in
    let after : List (Receiver g.row.D-L.Denot) = c.run_all.new.receivers in
    let ats = c.args.addresses.now in
    let a = g.D.Dock.known c.args.dock.now in
    let b = g.D.Dock.known c.open_all.new.dock in
    let e = g.D.Dock.known c.close_all.new.dock in
    let value : c.as_mut_slice.result.now ≡ before = c.as_mut_slice.ensures.value in
    let size : length before ≡ length ats = ap length (sym value) ∙ c.as_mut_slice.ensures.len ∙ c.in_ok-receivers.ensures.same_count in
    let still : length after ≡ length before = c.run_all.auto.receivers ∙ ap length value in
    let E : List (Receiver g.row.D-L.Denot) → Type 0 = λ xs. (k : ℕ) (d : Receiver g.row.D-L.Denot) → k < length xs → HasReceiverEnded g.D.L.Link.known (slice_index_or xs k d) (slice_index_or after k d) in
    let ran : Ran g.D.L.Link.known c.args.rules.now (length ats) before after =
    record { size = size; still = still; receivers = c.in_ok-receivers.ensures.receivers; ended = subst E value c.run_all.ensures } in
    let same : c.as_slice.result.now ≡ after = written_back c.in_ok-receivers.receivers.len after before c.as_slice.result.now (sym (still ∙ ap length (sym value) ∙ c.as_mut_slice.ensures.len)) c.as_slice.ensures.value in
    let settled : ReceiversSettle after c.settle-settled.result g.O.Sink.known c.args.out.now c.settle-settled.new.out =
    subst (λ (receivers : List (Receiver g.row.D-L.Denot)). ReceiversSettle receivers c.settle-settled.result g.O.Sink.known c.args.out.now c.settle-settled.new.out) same c.settle-settled.ensures.settles in
    let gone : KnownThrough b e (Closed link_in g.D.L.Link.known ats after) =
    subst (λ (receivers : List (Receiver g.row.D-L.Denot)). KnownThrough b e (Closed link_in g.D.L.Link.known ats receivers))
    (written_back c.in_ok-receivers.receivers.len after before _ (sym (still ∙ ap length (sym value) ∙ c.as_mut_slice.ensures.len)) refl) c.close_all.ensures.closed in
    let several : IsLive ats → ⊥ = λ one. c.if-len-eq1.false (c.len.ensures ∙ one) in
    record {
      run = rw c.ending.ensures
          (settled_run g.D.L.Link.known c.args.rules.now c.requires.rules c.reports_follow.ensures.headlines c.reports_follow.ensures.completes ats before after ran
          c.in_time_is_unbroken.ensures c.settle-settled.result g.D.Dock.known c.args.dock.now c.close_all.new.dock g.O.Sink.known c.args.out.now c.settle-settled.new.out
          (docked_then (λ contents. HaveLinks g.D.L.Link.known contents ats before) (Closed link_in g.D.L.Link.known ats after) a b e c.in_ok-receivers.ensures.links gone)
          (settled_hears g.D.L.Link.known c.args.rules.now c.requires.rules c.reports_follow.ensures.headlines c.reports_follow.ensures.completes ats before after ran
          c.settle-settled.result g.O.Sink.known c.args.out.now c.settle-settled.new.out a b e settled several c.in_ok-receivers.ensures.opened c.in_ok-receivers.ensures.links gone)
          (c.close_all.ensures.cause ∙ c.in_ok-receivers.ensures.cause.same (λ failed. cc)) several settled c.settle-settled.ensures.cause);
    }

pub returns-then-len-eq1 : goal.returns-then-len-eq1
returns-then-len-eq1 g c =
    let ats = c.args.addresses.now in
    let at = c.get.result.now in
    let one : length ats ≡ 1 = sym c.len.ensures ∙ c.if-len-eq1.true in
    let only : ats ≡ at ∷ [] = one_of ats at one (c.get.ensures ∙ get_or_default ats 0 at at (omega (arith, one))) in
    record {
      run = rw c.clean.ensures
          (subst (λ xs. ReceiveRun c.args.rules.now xs (clean_ending c.link_totals.result) g.D.Dock.known c.args.dock.now c.link_totals.new.dock g.O.Sink.known c.args.out.now c.link_totals.new.out) (sym only)
          c.link_totals.ensures.run.receives);
    }

pub run_all-requires-after_bounds : goal.run_all-requires-after_bounds
run_all-requires-after_bounds g c = λ lifetimes within.
    let receivers : List (Receiver g.row.D-L.Denot) = c.in_ok-receivers.receivers.items in
    subst (λ (xs : List (Receiver g.row.D-L.Denot)). All IsReceiverReady xs) (sym c.as_mut_slice.ensures.value)
    (receivers_ready c.args.rules.now receivers (length c.args.addresses.now) c.requires.rules (ap length (sym c.as_mut_slice.ensures.value) ∙ c.as_mut_slice.ensures.len ∙ c.in_ok-receivers.ensures.same_count) c.in_ok-receivers.ensures.receivers)
