use Rattle.std.proofs.Common.{◌≡◌, ◌∙◌, inl, inr, Err, List, length, map, refl, ap, arith}
use Rattle.std.proofs.lemmas.List.{length-map}
use Rattle.std.proofs.lemmas.Result.{err_from_is_err_and}
use Rattle.cmd_paths.specs.declared.receiver.PathReceiver.{PathReceiver}
use Rattle.cmd_paths.proofs.Linking.{AreNew, are_new, each_new}
use Rattle.cmd_paths.proofs.command.run_links.Goals as goal

pub returns-in_err-shared : goal.returns-in_err-shared
returns-in_err-shared g c =
    let p = err_from_is_err_and c.from_residual.result c.from_residual.ensures.1 in
    inl (p.1 ∙ ap Err p.2, refl)

pub returns-in_err-seats : goal.returns-in_err-seats
returns-in_err-seats g c =
    let p = err_from_is_err_and c.from_residual-in_err-seats.result c.from_residual-in_err-seats.ensures.1 in
    inl (p.1 ∙ ap Err p.2, refl)

pub returns-in_err-room : goal.returns-in_err-room
returns-in_err-room g c =
    let p = err_from_is_err_and c.from_residual-in_err-room.result c.from_residual-in_err-room.ensures.1 in
    inl (p.1 ∙ ap Err p.2, refl)

pub returns-in-Err : goal.returns-in-Err
returns-in-Err g c = inr (inl (refl, c.in-Err.ensures.failed, c.in-Err.ensures.cause.once refl))

pub read_links-requires-clause-new : goal.read_links-requires-clause-new
read_links-requires-clause-new g c κs within =
    let receivers : List (PathReceiver g.row.G.Denot g.row.D-L.Denot) = c.in-Ok.receivers.items in
    let links : List g.row.D-L.Denot = map (λ (j : PathReceiver g.row.G.Denot g.row.D-L.Denot). j.link) receivers in
    let ok = c.in-Ok.receivers.ok in
    let len = c.len.ensures in
    let many = c.in-Ok.ensures.same_count in
    let size : length links ≡ length receivers = length-map receivers (λ (j : PathReceiver g.row.G.Denot g.row.D-L.Denot). j.link) in
    let new : AreNew links c.in_ok-shared.paths receivers =
    are_new links c.in_ok-shared.paths receivers c.len.result (omega (arith, ok, len, many, size)) c.in_ok-shared.ensures.same_count c.in_ok-shared.ensures.new
    (c.in-Ok.ensures.paths ∙ c.in_ok-seats.ensures.paths) refl in
    each_new links c.in_ok-shared.paths receivers new

pub returns-in-Ok : goal.returns-in-Ok
returns-in-Ok g c =
    let links : List g.row.D-L.Denot = map (λ (j : PathReceiver g.row.G.Denot g.row.D-L.Denot). j.link) c.in-Ok.receivers.items in
    let ok = c.in-Ok.receivers.ok in
    let many = c.in-Ok.ensures.same_count in
    let size : length links ≡ length c.in-Ok.receivers.items = length-map c.in-Ok.receivers.items (λ (j : PathReceiver g.row.G.Denot g.row.D-L.Denot). j.link) in
    inr (inr (record {
      links = links;
      many = omega (arith, ok, many, size);
      mid = g.D.Dock.known c.open_links.new.dock;
      opened = c.in-Ok.ensures.opened;
      have = c.in-Ok.ensures.links;
      ends = c.read_links.ensures.ends;
      read = c.read_links.ensures.closed;
      still = c.read_links.ensures.cause ∙ c.in-Ok.ensures.cause.same (λ failed. cc);
    }))
