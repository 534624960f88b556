use Rattle.std.proofs.Common.{◌≡◌, ◌<◌, ◌*◌, ◌∙◌, ℕ, List, sym, ap, subst, take, drop, length, arith}
use Rattle.std.specs.List.{concat}
use Rattle.std.proofs.lemmas.List.{length-take}
use Rattle.dcp_sender.specs.Layout.{laid_out}
use Rattle.dcp_sender.proofs.Layouts.{length-chunks, concat-chunks, chunk_at}
use Rattle.dcp_sender.proofs.datagrams.CutPacket.get.Goals as goal

pub returns-clause-datagram : goal.returns-clause-datagram
returns-clause-datagram c none =
    let s = c.self.inside in
    let bytes : List ℕ = take s.layout.len s.room.items in
    let below = subst (λ (ds : List (List ℕ)). c.args.i < length ds) (sym c.self.view_is) c.requires in
    let all : concat (laid_out s.layout s.room.items) ≡ bytes = concat-chunks s.layout.longest s.layout.count bytes (omega (arith, length-take s.layout.len s.room.items, c.self.invariant.0.all)) in
    rw (← c.self.view_is)
    (c.part.ensures ∙ (ap (λ l. take s.layout.longest (drop (c.args.i * s.layout.longest) l)) (c.bytes.ensures.bytes ∙ (ap concat (sym c.self.view_is) ∙ all))
    ∙ sym (chunk_at s.layout.longest s.layout.count bytes c.args.i none (omega (arith, below, length-chunks s.layout.longest s.layout.count bytes)))))
