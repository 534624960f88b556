use Rattle.std.proofs.Common.{ℕ, List, ◌≡◌, ◌∙◌, sym, ap, take, length, arith}
use Rattle.std.proofs.lemmas.List.{length-take-le}
use Rattle.dcp_pft.specs.Carrying.{cut_of}
use Rattle.drm_server.proofs.OnePacket.{one_packet}
use Rattle.drm_server.proofs.cut_frame.CutFrame.cut.Goals as goal

pub returns : goal.returns
returns c =
    let s = c.self.inside in
    let v = c.self.invariant in
    let mine : List ℕ = take s.len s.buffer.items in
    let long : length mine ≡ s.len = length-take-le s.len s.buffer.items (omega (arith, v.1, v.2)) in
    rw (← c.self.view_is) (λ packet is. v.4 ∙ ap (cut_of s.plan.now.carry) (sym long ∙ ap length (one_packet s.plan.now s.frame mine packet v.3 is)))
