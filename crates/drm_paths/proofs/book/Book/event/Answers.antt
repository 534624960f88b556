use Rattle.std.proofs.Common.{◌++◌, ◌∷◌, [], map, sym, ◌∙◌, ap, arith}
use Rattle.drm_paths.specs.State.{PathState, bytes_in}
use Rattle.drm_paths.proofs.Taking.{bytes_then}
use Rattle.drm_paths.proofs.book.Book.event.Goals.{in-NoMemory, in-Took}
use Rattle.drm_paths.proofs.book.Book.event.Goals as goal

pub invariant_of-path-2 : goal.invariant_of-path-2
invariant_of-path-2 g c =
    let i = c.path.invariant in
    let kept = c.reserve.ensures.items in
    elim c.match-enter.branch [
      | in-NoMemory w ↦ rw w.path-inside-is (i.0, i.1 ∙ sym c.reserve.ensures.len, i.2 ∙ ap (λ l. bytes_in (map (λ d. d.items) l)) (sym kept), i.3, i.4)
      | in-Took w ↦
          let amount = w.add.ensures.amount in
          let one = w.push_reserved.ensures.len in
          let still = c.reserve.ensures.len in
          let was = i.1 in
          let sum = i.2 in
          let size = c.in-Ok.ensures.len in
          let ok = c.in-Ok.copy.ok in
          let grows = ap (λ l. bytes_in (map (λ d. d.items) l)) (w.push_reserved.ensures.items ∙ ap (λ l. l ++ c.in-Ok.copy ∷ []) kept) ∙ bytes_then (λ d. d.items) c.path.inside.taken.items c.in-Ok.copy in
          let room = c.requires.room in
          let same = ap (λ (p : PathState). bytes_in p.taken) c.path.view_is in
          rw w.path-inside-is (w.add.ensures.parts ∙ i.0, omega (arith, amount, one, still, was), omega (arith, sum, grows, size, ok), omega (arith, sum, size, room, same), i.4)
    ]
