use Rattle.std.proofs.Common.{rules, ◌≡◌, List, ◌++◌, ◌∷◌, [], map, vec_len, All, sym, ◌∙◌, ap, subst}
use Rattle.std.specs.Vec.Iter.{into_iter_items}
use Rattle.std.proofs.lemmas.List.Elements.{All-push}
use Rattle.cmd_paths.specs.declared.receiver.PathSeat.{PathSeat}
use Rattle.cmd_paths.proofs.Listing.{moved}
use Rattle.cmd_paths.proofs.receiver.seats_of.Goals as goal

pub loop-path-preserved : goal.loop-path-preserved
loop-path-preserved g c =
    let i = c.loop-path.invariant in
    let seats : List (PathSeat g.row.G.Denot) = c.loop-path.seats.items in
    let seat : PathSeat g.row.G.Denot = c.in_ok-seat.seat in
    let more : c.push.new.self.items ≡ seats ++ seat ∷ [] = c.in-Ok.ensures.items in
    let next : into_iter_items c.loop-path.path-iterator ≡ c.in-Some.path ∷ into_iter_items c.next.new.self = search rules in (
      ap (λ (ss : List (PathSeat g.row.G.Denot)). map (λ s. s.path) ss ++ into_iter_items c.next.new.self) more
          ∙ moved (λ (s : PathSeat g.row.G.Denot). s.path) seats seat c.in-Some.path (into_iter_items c.next.new.self) (into_iter_items c.loop-path.path-iterator) c.in_ok-seat.ensures.path next ∙ i.0,
      subst (λ (ss : List (PathSeat g.row.G.Denot)). All (λ s. vec_len s.buffer ≡ 65536) ss) (sym more)
          (All-push (λ (s : PathSeat g.row.G.Denot). vec_len s.buffer ≡ 65536) seats seat i.1 c.in_ok-seat.ensures.buffer),
    )
