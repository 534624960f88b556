use Rattle.std.proofs.Common.{ℕ, List, ◌≡◌, ◌∙◌, refl, sym}
use Rattle.std.proofs.lemmas.Bool.{true≢false}
use Rattle.std.proofs.lemmas.Slice.Eq.{bytes_eq-Decides}
use Rattle.std.specs.Bool.{Decides}
use Rattle.drm_compare.proofs.Cuts.{cut_same}
use Rattle.drm_compare.proofs.Same.{own_of, same_packets, other_packets}
use Rattle.drm_compare.proofs.comparison.have_same_datagrams.Goals as goal

pub returns-else-eq : goal.returns-else-eq
returns-else-eq c =
    let t : ℕ = c.args.mine.now.frame in
    let a : List ℕ = c.packet.result.now in
    let b : List ℕ = c.packet-2.result.now in
    other_packets c.args.mine.now.plan c.args.theirs.now.plan t a b
    (own_of c.args.mine.now t c.schedule.result.now a c.schedule.ensures c.always_valid.ensures.schedule refl c.packet.ensures.packet c.packet.ensures.in_range)
    (own_of c.args.theirs.now t c.schedule-2.result.now b c.schedule-2.ensures c.always_valid-2.ensures.schedule c.requires c.packet-2.ensures.packet c.packet-2.ensures.in_range)
    c.eq.result (λ same. true≢false (sym ((bytes_eq-Decides a b).1 same) ∙ sym c.eq.ensures ∙ c.if-eq.false)) c.if-eq.false

pub returns-then-eq : goal.returns-then-eq
returns-then-eq c =
    let t : ℕ = c.args.mine.now.frame in
    let a : List ℕ = c.packet.result.now in
    let b : List ℕ = c.packet-2.result.now in
    let decides : Decides c.eq-then-eq.result (c.cut.result ≡ c.cut-then-eq.result) = rw c.eq-then-eq.ensures (cut_same c.cut.result c.cut-then-eq.result) in
    same_packets c.args.mine.now.plan c.args.theirs.now.plan t a b
    (own_of c.args.mine.now t c.schedule.result.now a c.schedule.ensures c.always_valid.ensures.schedule refl c.packet.ensures.packet c.packet.ensures.in_range)
    (own_of c.args.theirs.now t c.schedule-2.result.now b c.schedule-2.ensures c.always_valid-2.ensures.schedule c.requires c.packet-2.ensures.packet c.packet-2.ensures.in_range)
    c.eq-then-eq.result ((bytes_eq-Decides a b).0 (sym c.eq.ensures ∙ c.if-eq.true)) c.cut.result c.cut-then-eq.result
    (c.cut.ensures a c.packet.ensures.packet) (c.cut-then-eq.ensures b c.packet-2.ensures.packet) decides
