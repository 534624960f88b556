use Rattle.std.proofs.Common.{◌≡◌, Err, List, length, map, All, sym, ◌∙◌, Some, ap, subst, arith}
use Rattle.std.specs.Prelude.{sum_by}
use Rattle.std.specs.List.{list_any}
use Rattle.std.proofs.lemmas.List.{length-map}
use Rattle.std.proofs.lemmas.Result.{err_from_is_err_and}
use Rattle.drm_links.specs.Known.{KnownThrough}
use Rattle.drm_paths.specs.State.{PathState}
use Rattle.drm_paths.specs.Closing.{BookCloses}
use Rattle.cmd_paths.proofs.Listing.{written_back}
use Rattle.cmd_paths.specs.declared.receiver.PathReceiver.{PathReceiver}
use Rattle.cmd_paths.specs.Receivers.{IsPathJobReady, has_failed, has_run_out}
use Rattle.cmd_paths.specs.Opening.{IsClosed}
use Rattle.cmd_paths.specs.Run.{settings_in, options_in}
use Rattle.cmd_paths.proofs.Linking.{Ran, new_of, ran_then, are_ready, breaks, breaks_none, are_read, not_so, fits_closed, all_parts, ends_by}
use Rattle.cmd_paths.proofs.command.read_links.Goals as goal

pub run_all-requires-clause-ready : goal.run_all-requires-clause-ready
run_all-requires-clause-ready g c κs within =
    let receivers : List (PathReceiver g.row.G.Denot g.row.D-L.Denot) = c.args.receivers.items in
    subst (λ (js : List (PathReceiver g.row.G.Denot g.row.D-L.Denot)). All IsPathJobReady js) (sym c.as_mut_slice.ensures.value)
    (are_ready (map (λ receiver. receiver.link) receivers) (map (λ receiver. receiver.path) receivers) receivers (new_of receivers c.requires.new) c.requires.buffers)

pub returns-then-failed-clause-ends : goal.returns-then-failed-clause-ends
returns-then-failed-clause-ends g c =
    let receivers : List (PathReceiver g.row.G.Denot g.row.D-L.Denot) = c.args.receivers.items in
    let after : List (PathReceiver g.row.G.Denot g.row.D-L.Denot) = c.run_all.new.receivers in
    let links : List g.row.D-L.Denot = map (λ receiver. receiver.link) receivers in
    let paths : List PathState = map (λ receiver. receiver.path) receivers in
    let ran : Ran g.D.L.Link.known (options_in c.args.request.now) links paths receivers after =
    ran_then g.D.L.Link.known (options_in c.args.request.now) links paths receivers c.as_mut_slice.result.now after (new_of receivers c.requires.new) c.as_mut_slice.ensures.value c.run_all.auto.receivers c.run_all.ensures in
    let same : c.as_slice.result.now ≡ after = written_back c.args.receivers.len after receivers c.as_slice.result.now (sym (c.run_all.auto.receivers ∙ c.as_mut_slice.ensures.len)) c.as_slice.ensures.value in
    let failed : list_any (λ receiver. has_failed receiver.ended) after ≡ c.some_failed-failed.result = ap (λ js. list_any (λ receiver. has_failed receiver.ended) js) (sym same) ∙ sym c.some_failed-failed.ensures in
    breaks g.D.L.Link.known (options_in c.args.request.now) links paths receivers after ran (failed ∙ c.if-failed.true)

pub returns-then-failed-clause-closed : goal.returns-then-failed-clause-closed
returns-then-failed-clause-closed g c =
    let receivers : List (PathReceiver g.row.G.Denot g.row.D-L.Denot) = c.args.receivers.items in
    let after : List (PathReceiver g.row.G.Denot g.row.D-L.Denot) = c.run_all.new.receivers in
    let links : List g.row.D-L.Denot = map (λ receiver. receiver.link) receivers in
    let paths : List PathState = map (λ receiver. receiver.path) receivers in
    let ran : Ran g.D.L.Link.known (options_in c.args.request.now) links paths receivers after =
    ran_then g.D.L.Link.known (options_in c.args.request.now) links paths receivers c.as_mut_slice.result.now after (new_of receivers c.requires.new) c.as_mut_slice.ensures.value c.run_all.auto.receivers c.run_all.ensures in
    let same : c.as_slice.result.now ≡ after = written_back c.args.receivers.len after receivers c.as_slice.result.now (sym (c.run_all.auto.receivers ∙ c.as_mut_slice.ensures.len)) c.as_slice.ensures.value in
    let gone : KnownThrough (g.D.Dock.known c.args.dock.now) (g.D.Dock.known c.close_links-handed.new.dock) (IsClosed g.D.L.Link.known c.args.request.now.addresses (map (λ receiver. receiver.link) after)) =
    subst (λ (js : List (PathReceiver g.row.G.Denot g.row.D-L.Denot)). KnownThrough (g.D.Dock.known c.args.dock.now) (g.D.Dock.known c.close_links-handed.new.dock) (IsClosed g.D.L.Link.known c.args.request.now.addresses (map (λ receiver. receiver.link) js)))
    (sym c.as_slice.ensures.value ∙ same) c.close_links-handed.ensures.closed in
    record {
      last = map (λ receiver. receiver.link) after;
      read = are_read g.D.L.Link.known (options_in c.args.request.now) links paths receivers after ran _ (λ w is_failed is_out. tt);
      closed = gone;
    }

pub returns-then-ran_out-clause-ends : goal.returns-then-ran_out-clause-ends
returns-then-ran_out-clause-ends g c =
    let receivers : List (PathReceiver g.row.G.Denot g.row.D-L.Denot) = c.args.receivers.items in
    let after : List (PathReceiver g.row.G.Denot g.row.D-L.Denot) = c.run_all.new.receivers in
    let links : List g.row.D-L.Denot = map (λ receiver. receiver.link) receivers in
    let paths : List PathState = map (λ receiver. receiver.path) receivers in
    let ran : Ran g.D.L.Link.known (options_in c.args.request.now) links paths receivers after =
    ran_then g.D.L.Link.known (options_in c.args.request.now) links paths receivers c.as_mut_slice.result.now after (new_of receivers c.requires.new) c.as_mut_slice.ensures.value c.run_all.auto.receivers c.run_all.ensures in
    let same : c.as_slice.result.now ≡ after = written_back c.args.receivers.len after receivers c.as_slice.result.now (sym (c.run_all.auto.receivers ∙ c.as_mut_slice.ensures.len)) c.as_slice.ensures.value in
    let failed : list_any (λ receiver. has_failed receiver.ended) after ≡ c.some_failed-failed.result = ap (λ js. list_any (λ receiver. has_failed receiver.ended) js) (sym same) ∙ sym c.some_failed-failed.ensures in
    breaks_none g.D.L.Link.known (options_in c.args.request.now) links paths receivers after ran (failed ∙ c.if-failed.false)

pub returns-then-ran_out-clause-closed : goal.returns-then-ran_out-clause-closed
returns-then-ran_out-clause-closed g c =
    let receivers : List (PathReceiver g.row.G.Denot g.row.D-L.Denot) = c.args.receivers.items in
    let after : List (PathReceiver g.row.G.Denot g.row.D-L.Denot) = c.run_all.new.receivers in
    let links : List g.row.D-L.Denot = map (λ receiver. receiver.link) receivers in
    let paths : List PathState = map (λ receiver. receiver.path) receivers in
    let ran : Ran g.D.L.Link.known (options_in c.args.request.now) links paths receivers after =
    ran_then g.D.L.Link.known (options_in c.args.request.now) links paths receivers c.as_mut_slice.result.now after (new_of receivers c.requires.new) c.as_mut_slice.ensures.value c.run_all.auto.receivers c.run_all.ensures in
    let same : c.as_slice.result.now ≡ after = written_back c.args.receivers.len after receivers c.as_slice.result.now (sym (c.run_all.auto.receivers ∙ c.as_mut_slice.ensures.len)) c.as_slice.ensures.value in
    let failed : list_any (λ receiver. has_failed receiver.ended) after ≡ c.some_failed-failed.result = ap (λ js. list_any (λ receiver. has_failed receiver.ended) js) (sym same) ∙ sym c.some_failed-failed.ensures in
    let gone : KnownThrough (g.D.Dock.known c.args.dock.now) (g.D.Dock.known c.close_links-handed.new.dock) (IsClosed g.D.L.Link.known c.args.request.now.addresses (map (λ receiver. receiver.link) after)) =
    subst (λ (js : List (PathReceiver g.row.G.Denot g.row.D-L.Denot)). KnownThrough (g.D.Dock.known c.args.dock.now) (g.D.Dock.known c.close_links-handed.new.dock) (IsClosed g.D.L.Link.known c.args.request.now.addresses (map (λ receiver. receiver.link) js)))
    (sym c.as_slice.ensures.value ∙ same) c.close_links-handed.ensures.closed in
    record {
      last = map (λ receiver. receiver.link) after;
      read = are_read g.D.L.Link.known (options_in c.args.request.now) links paths receivers after ran _ (λ w is_failed is_out is. not_so (failed ∙ c.if-failed.false) (is_failed (ap (λ v. has_failed (Some v)) is)));
      closed = gone;
    }

pub returns-in_err-paths-clause-ends : goal.returns-in_err-paths-clause-ends
returns-in_err-paths-clause-ends g c =
    let receivers : List (PathReceiver g.row.G.Denot g.row.D-L.Denot) = c.args.receivers.items in
    let after : List (PathReceiver g.row.G.Denot g.row.D-L.Denot) = c.run_all.new.receivers in
    let links : List g.row.D-L.Denot = map (λ receiver. receiver.link) receivers in
    let paths : List PathState = map (λ receiver. receiver.path) receivers in
    let ran : Ran g.D.L.Link.known (options_in c.args.request.now) links paths receivers after =
    ran_then g.D.L.Link.known (options_in c.args.request.now) links paths receivers c.as_mut_slice.result.now after (new_of receivers c.requires.new) c.as_mut_slice.ensures.value c.run_all.auto.receivers c.run_all.ensures in
    let same : c.as_slice.result.now ≡ after = written_back c.args.receivers.len after receivers c.as_slice.result.now (sym (c.run_all.auto.receivers ∙ c.as_mut_slice.ensures.len)) c.as_slice.ensures.value in
    let failed : list_any (λ receiver. has_failed receiver.ended) after ≡ c.some_failed-failed.result = ap (λ js. list_any (λ receiver. has_failed receiver.ended) js) (sym same) ∙ sym c.some_failed-failed.ensures in
    let p = err_from_is_err_and c.from_residual.result c.from_residual.ensures.1 in
    rw (p.1 ∙ ap Err p.2) (breaks_none g.D.L.Link.known (options_in c.args.request.now) links paths receivers after ran (failed ∙ c.if-failed.false))

pub returns-in_err-paths-clause-closed : goal.returns-in_err-paths-clause-closed
returns-in_err-paths-clause-closed g c =
    let receivers : List (PathReceiver g.row.G.Denot g.row.D-L.Denot) = c.args.receivers.items in
    let after : List (PathReceiver g.row.G.Denot g.row.D-L.Denot) = c.run_all.new.receivers in
    let links : List g.row.D-L.Denot = map (λ receiver. receiver.link) receivers in
    let paths : List PathState = map (λ receiver. receiver.path) receivers in
    let ran : Ran g.D.L.Link.known (options_in c.args.request.now) links paths receivers after =
    ran_then g.D.L.Link.known (options_in c.args.request.now) links paths receivers c.as_mut_slice.result.now after (new_of receivers c.requires.new) c.as_mut_slice.ensures.value c.run_all.auto.receivers c.run_all.ensures in
    let same : c.as_slice.result.now ≡ after = written_back c.args.receivers.len after receivers c.as_slice.result.now (sym (c.run_all.auto.receivers ∙ c.as_mut_slice.ensures.len)) c.as_slice.ensures.value in
    let failed : list_any (λ receiver. has_failed receiver.ended) after ≡ c.some_failed-failed.result = ap (λ js. list_any (λ receiver. has_failed receiver.ended) js) (sym same) ∙ sym c.some_failed-failed.ensures in
    let gone : KnownThrough (g.D.Dock.known c.args.dock.now) (g.D.Dock.known c.close_links-handed.new.dock) (IsClosed g.D.L.Link.known c.args.request.now.addresses (map (λ receiver. receiver.link) after)) =
    subst (λ (js : List (PathReceiver g.row.G.Denot g.row.D-L.Denot)). KnownThrough (g.D.Dock.known c.args.dock.now) (g.D.Dock.known c.close_links-handed.new.dock) (IsClosed g.D.L.Link.known c.args.request.now.addresses (map (λ receiver. receiver.link) js)))
    (sym c.as_slice.ensures.value ∙ same) c.close_links-handed.ensures.closed in
    let p = err_from_is_err_and c.from_residual.result c.from_residual.ensures.1 in
    rw (p.1 ∙ ap Err p.2)
    record {
      last = map (λ receiver. receiver.link) after;
      read = are_read g.D.L.Link.known (options_in c.args.request.now) links paths receivers after ran _ (λ w is_failed is_out is. not_so (failed ∙ c.if-failed.false) (is_failed (ap (λ v. has_failed (Some v)) is)));
      closed = gone;
    }

pub close_paths-requires-clause-each_part : goal.close_paths-requires-clause-each_part
close_paths-requires-clause-each_part g c =
    let receivers : List (PathReceiver g.row.G.Denot g.row.D-L.Denot) = c.args.receivers.items in
    let after : List (PathReceiver g.row.G.Denot g.row.D-L.Denot) = c.run_all.new.receivers in
    let links : List g.row.D-L.Denot = map (λ receiver. receiver.link) receivers in
    let paths : List PathState = map (λ receiver. receiver.path) receivers in
    let ran : Ran g.D.L.Link.known (options_in c.args.request.now) links paths receivers after =
    ran_then g.D.L.Link.known (options_in c.args.request.now) links paths receivers c.as_mut_slice.result.now after (new_of receivers c.requires.new) c.as_mut_slice.ensures.value c.run_all.auto.receivers c.run_all.ensures in
    let same : c.as_slice.result.now ≡ after = written_back c.args.receivers.len after receivers c.as_slice.result.now (sym (c.run_all.auto.receivers ∙ c.as_mut_slice.ensures.len)) c.as_slice.ensures.value in
    let then_paths : c.in_ok-paths.paths ≡ map (λ receiver. receiver.path) after = c.in_ok-paths.ensures.paths ∙ ap (λ js. map (λ receiver. receiver.path) js) (sym c.as_slice.ensures.value ∙ same) in
    let parts : sum_by (λ p. p.parts) (map (λ receiver. receiver.path) after) ≡ length links = all_parts g.D.L.Link.known (options_in c.args.request.now) links paths receivers after ran in
    let size : length links ≡ length receivers = length-map receivers (λ receiver. receiver.link) in
    let ok = c.args.receivers.ok in
    ap (λ ps. sum_by (λ p. p.parts) ps) then_paths ∙ parts ∙ size ∙ omega (arith, ok) ∙ sym c.requires.parts

pub returns-clause-ends : goal.returns-clause-ends
returns-clause-ends g c =
    let receivers : List (PathReceiver g.row.G.Denot g.row.D-L.Denot) = c.args.receivers.items in
    let after : List (PathReceiver g.row.G.Denot g.row.D-L.Denot) = c.run_all.new.receivers in
    let links : List g.row.D-L.Denot = map (λ receiver. receiver.link) receivers in
    let paths : List PathState = map (λ receiver. receiver.path) receivers in
    let ran : Ran g.D.L.Link.known (options_in c.args.request.now) links paths receivers after =
    ran_then g.D.L.Link.known (options_in c.args.request.now) links paths receivers c.as_mut_slice.result.now after (new_of receivers c.requires.new) c.as_mut_slice.ensures.value c.run_all.auto.receivers c.run_all.ensures in
    let same : c.as_slice.result.now ≡ after = written_back c.args.receivers.len after receivers c.as_slice.result.now (sym (c.run_all.auto.receivers ∙ c.as_mut_slice.ensures.len)) c.as_slice.ensures.value in
    let failed : list_any (λ receiver. has_failed receiver.ended) after ≡ c.some_failed-failed.result = ap (λ js. list_any (λ receiver. has_failed receiver.ended) js) (sym same) ∙ sym c.some_failed-failed.ensures in
    let again : c.as_slice-2.result.now ≡ after = c.as_slice-2.ensures.value ∙ sym c.as_slice.ensures.value ∙ same in
    let out : list_any (λ receiver. has_run_out receiver.ended) after ≡ c.some_ran_out-ran_out.result = ap (λ js. list_any (λ receiver. has_run_out receiver.ended) js) (sym again) ∙ sym c.some_ran_out-ran_out.ensures in
    let then_paths : c.in_ok-paths.paths ≡ map (λ receiver. receiver.path) after = c.in_ok-paths.ensures.paths ∙ ap (λ js. map (λ receiver. receiver.path) js) (sym c.as_slice.ensures.value ∙ same) in
    rw c.closed.ensures
    (ends_by c.args.request.now g.D.L.Link.known links paths receivers after ran (failed ∙ c.if-failed.false) (out ∙ c.if-ran_out.false)
    c.close_paths.ensures.0 c.close_paths.result
    (subst (λ ps. BookCloses (settings_in c.args.request.now) c.close_paths.ensures.0 ps c.close_paths.result) then_paths
    (subst (λ by. BookCloses by c.close_paths.ensures.0 c.in_ok-paths.paths c.close_paths.result) (sym c.requires.journal) c.close_paths.ensures.1)))

pub returns-clause-closed : goal.returns-clause-closed
returns-clause-closed g c =
    let receivers : List (PathReceiver g.row.G.Denot g.row.D-L.Denot) = c.args.receivers.items in
    let after : List (PathReceiver g.row.G.Denot g.row.D-L.Denot) = c.run_all.new.receivers in
    let links : List g.row.D-L.Denot = map (λ receiver. receiver.link) receivers in
    let paths : List PathState = map (λ receiver. receiver.path) receivers in
    let ran : Ran g.D.L.Link.known (options_in c.args.request.now) links paths receivers after =
    ran_then g.D.L.Link.known (options_in c.args.request.now) links paths receivers c.as_mut_slice.result.now after (new_of receivers c.requires.new) c.as_mut_slice.ensures.value c.run_all.auto.receivers c.run_all.ensures in
    let same : c.as_slice.result.now ≡ after = written_back c.args.receivers.len after receivers c.as_slice.result.now (sym (c.run_all.auto.receivers ∙ c.as_mut_slice.ensures.len)) c.as_slice.ensures.value in
    let failed : list_any (λ receiver. has_failed receiver.ended) after ≡ c.some_failed-failed.result = ap (λ js. list_any (λ receiver. has_failed receiver.ended) js) (sym same) ∙ sym c.some_failed-failed.ensures in
    let again : c.as_slice-2.result.now ≡ after = c.as_slice-2.ensures.value ∙ sym c.as_slice.ensures.value ∙ same in
    let out : list_any (λ receiver. has_run_out receiver.ended) after ≡ c.some_ran_out-ran_out.result = ap (λ js. list_any (λ receiver. has_run_out receiver.ended) js) (sym again) ∙ sym c.some_ran_out-ran_out.ensures in
    let gone : KnownThrough (g.D.Dock.known c.args.dock.now) (g.D.Dock.known c.close_links-handed.new.dock) (IsClosed g.D.L.Link.known c.args.request.now.addresses (map (λ receiver. receiver.link) after)) =
    subst (λ (js : List (PathReceiver g.row.G.Denot g.row.D-L.Denot)). KnownThrough (g.D.Dock.known c.args.dock.now) (g.D.Dock.known c.close_links-handed.new.dock) (IsClosed g.D.L.Link.known c.args.request.now.addresses (map (λ receiver. receiver.link) js)))
    (sym c.as_slice.ensures.value ∙ same) c.close_links-handed.ensures.closed in
    rw c.closed.ensures
    record {
      last = map (λ receiver. receiver.link) after;
      read = are_read g.D.L.Link.known (options_in c.args.request.now) links paths receivers after ran _ (λ w is_failed is_out. fits_closed c.close_paths.result w (λ f. not_so (failed ∙ c.if-failed.false) (is_failed f)) (λ o. not_so (out ∙ c.if-ran_out.false) (is_out o)));
      closed = gone;
    }
