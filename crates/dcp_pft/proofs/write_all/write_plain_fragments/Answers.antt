use Rattle.std.proofs.Common.{ℕ, ◌≡◌, ◌+◌, ◌*◌, ◌∙◌, List, length, ap, arith}
use Rattle.dcp_pft.specs.Carrying.{fragment_size}
use Rattle.dcp_pft.specs.Head.{SpellsHead, fragment_of}
use Rattle.dcp_pft.proofs.FragmentPlaces.{one_more, place_plain, plain_ends}
use Rattle.dcp_pft.proofs.write_all.write_plain_fragments.Goals as goal

pub loop-i-preserved : goal.loop-i-preserved
loop-i-preserved c = λ parity.
    let shape = c.args.shape.now in
    let len : ℕ = length c.args.packet.now in
    let at : ℕ = c.loop-i.i * (14 + c.from.result) in
    let place : at ≡ c.loop-i.i * (14 + shape.piece) = ap (λ (n : ℕ). c.loop-i.i * (14 + n)) c.from.ensures in
    one_more (λ (k : ℕ) (l : List ℕ). SpellsHead (fragment_of shape c.args.seq c.args.packet.now parity k) l) (λ k. k * fragment_size shape len 0) (λ k. fragment_size shape len k)
    c.loop-i.i at c.loop-i.into c.write_plain_at.new.into (c.loop-i.invariant parity)
    (λ k before. omega (arith, plain_ends shape len c.loop-i.i k c.requires.code before, place))
    (place ∙ place_plain shape len c.loop-i.i c.requires.shape c.requires.code c.loop-i-test.true)
    c.write_plain_at.ensures.before (c.write_plain_at.ensures.fragment parity)
