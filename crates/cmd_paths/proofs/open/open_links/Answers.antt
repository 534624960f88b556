use Rattle.std.proofs.Common.{rules, ◌≡◌, ℕ, ◌+◌, ◌<◌, All, refl, sym, subst, slice_index_or, vec_len, ◌∙◌, ap, arith, length, length-append, List, map, [], ◌∷◌, ◌++◌}
use Rattle.std.specs.Vec.Iter.{into_iter_items}
use Rattle.std.proofs.lemmas.List.{length-map, map_push, append-nil}
use Rattle.std.proofs.lemmas.List.Elements.{All-push}
use Rattle.std.proofs.lemmas.Grind.{common_steps}
use Rattle.drm_links.specs.declared.dock.Address.{Address}
use Rattle.drm_links.proofs.KnownLemmas.{counts_one, once_then, Tells-weaker}
use Rattle.drm_links.proofs.Places.{each_more}
use Rattle.drm_links.specs.Dock.{DockKnownThrough, HasLink}
use Rattle.drm_links.proofs.OpeningLemmas.{found_now, opened_now, opened_all, docked_any, docked_still}
use Rattle.drm_links.proofs.BindLemmas.{HaveFirst, missed_now, failed_few, all_links}
use Rattle.cmd_paths.specs.declared.receiver.PathSeat.{PathSeat}
use Rattle.cmd_paths.specs.declared.receiver.PathReceiver.{PathReceiver}
use Rattle.cmd_paths.proofs.Opening.{itself}
use Rattle.cmd_paths.proofs.Listing.{moved, all_left, all_first}
use Rattle.cmd_paths.proofs.open.open_links.Goals as goal

pub loop-seat-preserved : goal.loop-seat-preserved
loop-seat-preserved g c =
    let i = c.loop-seat.invariant in
    let k : ℕ = c.loop-seat.k in
    let ats = c.args.addresses.now in
    let at : Address = c.get.result.now in
    let known = g.D.L.Link.known in
    let seat : PathSeat g.row.G.Denot = c.in-Some.seat in
    let receiver : PathReceiver g.row.G.Denot g.row.D-L.Denot = c.receiver_for.result in
    let receivers : List (PathReceiver g.row.G.Denot g.row.D-L.Denot) = c.loop-seat.receivers.items in
    let rest : List (PathSeat g.row.G.Denot) = into_iter_items c.next.new.self in
    let next : into_iter_items c.loop-seat.seat-iterator ≡ seat ∷ rest = search rules in
    let left = ap length next in
    let all = i.9 in
    let within : k < length ats = omega (arith, left, all) in
    let a = g.D.Dock.known c.args.dock.now in
    let b = g.D.Dock.known c.loop-seat.dock in
    let d = g.D.Dock.known c.bind.new.self in
    let size : length receivers ≡ k = i.1 in
    let more : c.push_reserved.new.self.items ≡ receivers ++ receiver ∷ [] = c.push_reserved.ensures.items in
    let many : length c.push_reserved.new.self.items ≡ k + 1 = ap length more ∙ length-append receivers (receiver ∷ []) ∙ omega (arith, size) in
    let links : List g.row.D-L.Denot = map (λ (j : PathReceiver g.row.G.Denot g.row.D-L.Denot). j.link) receivers in
    let links_more : map (λ (j : PathReceiver g.row.G.Denot g.row.D-L.Denot). j.link) c.push_reserved.new.self.items ≡ links ++ c.in-Link.link ∷ [] =
    ap (λ js. map (λ (j : PathReceiver g.row.G.Denot g.row.D-L.Denot). j.link) js) more ∙ (map_push (λ (j : PathReceiver g.row.G.Denot g.row.D-L.Denot). j.link) receivers receiver ∙ ap (λ l. links ++ l ∷ []) c.receiver_for.ensures.link) in
    let links_size : length links ≡ k = length-map receivers (λ (j : PathReceiver g.row.G.Denot g.row.D-L.Denot). j.link) ∙ size in
    let Q : ℕ → g.row.D-L.Denot → Type 0 = λ n link. (e : Address) → DockKnownThrough a d (λ contents. HasLink known contents n (slice_index_or ats n e) link) in
    let old : (n : ℕ) (j : g.row.D-L.Denot) → n < k → Q n (slice_index_or links n j)
    = λ n j less e. docked_still (λ contents. HasLink known contents n (slice_index_or ats n e) (slice_index_or links n j)) a b d (i.4 n j less e) c.in-Link.ensures.counts_call in (
      (let len = c.push_reserved.ensures.len in let before = i.0 in omega (arith, len, before)),
      many,
      c.in-Link.ensures.cause.same (λ failed. failed) ∙ i.2,
      opened_now ats k at within c.get.ensures known c.in-Link.link a b d i.3 c.in-Link.ensures.opened c.in-Link.ensures.counts_call,
      each_more Q links (map (λ (j : PathReceiver g.row.G.Denot g.row.D-L.Denot). j.link) c.push_reserved.new.self.items) c.in-Link.link k links_size links_more old
          (λ e. found_now ats k at within c.get.ensures known c.in-Link.link a b d c.requires.different i.3 c.in-Link.ensures.opened c.in-Link.ensures.counts_call e),
      (let room = c.push_reserved.ensures.capacity in let before = i.5 in omega (arith, room, before)),
      ap (λ js. map (λ (j : PathReceiver g.row.G.Denot g.row.D-L.Denot). j.path) js ++ map (λ (s : PathSeat g.row.G.Denot). s.path) rest) more
          ∙ moved (λ (j : PathReceiver g.row.G.Denot g.row.D-L.Denot). j.path) receivers receiver seat.path (map (λ (s : PathSeat g.row.G.Denot). s.path) rest)
          (map (λ (s : PathSeat g.row.G.Denot). s.path) (into_iter_items c.loop-seat.seat-iterator)) c.receiver_for.ensures.path (ap (λ ss. map (λ (s : PathSeat g.row.G.Denot). s.path) ss) next) ∙ i.6,
      subst (λ js. All (λ (j : PathReceiver g.row.G.Denot g.row.D-L.Denot). vec_len j.buffer ≡ 65536) js) (sym more)
          (All-push (λ (j : PathReceiver g.row.G.Denot g.row.D-L.Denot). vec_len j.buffer ≡ 65536) receivers receiver i.7
          (ap vec_len c.receiver_for.ensures.buffer ∙ all_first (λ (s : PathSeat g.row.G.Denot). vec_len s.buffer ≡ 65536) seat rest (subst (λ ss. All (λ (s : PathSeat g.row.G.Denot). vec_len s.buffer ≡ 65536) ss) next i.8))),
      all_left (λ (s : PathSeat g.row.G.Denot). vec_len s.buffer ≡ 65536) seat rest (subst (λ ss. All (λ (s : PathSeat g.row.G.Denot). vec_len s.buffer ≡ 65536) ss) next i.8),
      omega (arith, left, all),
    )

pub returns-in-Failed-clause-failed : goal.returns-in-Failed-clause-failed
returns-in-Failed-clause-failed g c =
    let i = c.loop-seat.invariant in
    let k : ℕ = c.loop-seat.k in
    let ats = c.args.addresses.now in
    let known = g.D.L.Link.known in
    let rest : List (PathSeat g.row.G.Denot) = into_iter_items c.next.new.self in
    let next : into_iter_items c.loop-seat.seat-iterator ≡ c.in-Some.seat ∷ rest = search rules in
    let left = ap length next in
    let all = i.9 in
    let within : k < length ats = omega (arith, left, all) in
    let a = g.D.Dock.known c.args.dock.now in
    let b = g.D.Dock.known c.loop-seat.dock in
    let d = g.D.Dock.known c.bind.new.self in
    let links : List g.row.D-L.Denot = map (λ (j : PathReceiver g.row.G.Denot g.row.D-L.Denot). j.link) c.loop-seat.receivers.items in
    let size : length links ≡ k = length-map c.loop-seat.receivers.items (λ (j : PathReceiver g.row.G.Denot g.row.D-L.Denot). j.link) ∙ i.1 in
    failed_few itself known ats links k size a d (g.D.Dock.known c.close_links.new.dock) within
    (docked_still (HaveFirst itself known ats links k) a b d (all_links itself known ats links k a b (docked_any _ a b i.3) i.4) c.in-Failed.ensures.counts_call)
    (missed_now ats k c.get.result.now within c.get.ensures known a b d c.requires.different i.3 c.in-Failed.ensures.opened c.in-Failed.ensures.counts_call)
    c.close_links.ensures.closed

pub returns-in-Failed-clause-cause : goal.returns-in-Failed-clause-cause
returns-in-Failed-clause-cause g c =
    counts_one refl (c.close_links.ensures.cause ∙ once_then c.loop-seat.invariant.2 (c.in-Failed.ensures.cause.once tt))

pub returns-clause-paths : goal.returns-clause-paths
returns-clause-paths g c =
    let none : into_iter_items c.loop-seat.seat-iterator ≡ [] = grind (arith, common_steps) in
    let paths = map (λ (j : PathReceiver g.row.G.Denot g.row.D-L.Denot). j.path) c.loop-seat.receivers.items in
    sym (append-nil paths) ∙ (ap (λ ss. paths ++ map (λ (s : PathSeat g.row.G.Denot). s.path) ss) (sym none) ∙ c.loop-seat.invariant.6)

pub returns-clause-links : goal.returns-clause-links
returns-clause-links g c =
    let i = c.loop-seat.invariant in
    let none : into_iter_items c.loop-seat.seat-iterator ≡ [] = grind (arith, common_steps) in
    let left = ap length none in
    let sum = i.9 in
    let a = g.D.Dock.known c.args.dock.now in
    let b = g.D.Dock.known c.loop-seat.dock in
    let links : List g.row.D-L.Denot = map (λ (j : PathReceiver g.row.G.Denot g.row.D-L.Denot). j.link) c.loop-seat.receivers.items in
    Tells-weaker _ _ a b (all_links itself g.D.L.Link.known c.args.addresses.now links c.loop-seat.k a b (docked_any _ a b i.3) i.4)
    (λ x y first k at none within. first k at none (omega (arith, within, left, sum)))

pub returns-clause-opened : goal.returns-clause-opened
returns-clause-opened g c =
    let i = c.loop-seat.invariant in
    let none : into_iter_items c.loop-seat.seat-iterator ≡ [] = grind (arith, common_steps) in
    let left = ap length none in
    let sum = i.9 in
    opened_all c.args.addresses.now c.loop-seat.k (g.D.Dock.known c.args.dock.now) (g.D.Dock.known c.loop-seat.dock) (omega (arith, left, sum)) i.3
