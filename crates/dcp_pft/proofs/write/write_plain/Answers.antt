use Rattle.std.proofs.Common.{◌*◌, ◌∙◌, ap, take, drop, ℕ, arith, length, length-take}
use Rattle.dcp_pft.proofs.Fragments.{plain_writes}
use Rattle.dcp_pft.proofs.Shapes.{has_none}
use Rattle.dcp_pft.proofs.FragmentPlaces.{plain_size}
use Rattle.dcp_pft.proofs.write.write_plain.Goals as goal

pub put_at-requires : goal.put_at-requires
put_at-requires c =
    let has = has_none (length c.args.packet.now) c.args.shape.now c.requires.shape c.requires.code in
    omega (arith, has.piece, ap length c.part-payload.ensures, length-take c.from-size.result (drop (c.args.index * c.from-size.result) c.args.packet.now), c.requires.room, c.put_head.auto.into)

pub returns-clause-fragment : goal.returns-clause-fragment
returns-clause-fragment c = λ parity.
    plain_writes c.args.shape.now c.args.seq c.args.index c.args.packet.now parity c.plain_head.result c.args.into.now c.put_head.new.into c.put_at.new.into c.part-payload.result.now
    c.requires.shape c.requires.code
    (c.part-payload.ensures ∙ ap (λ (n : ℕ). take n (drop (c.args.index * n) c.args.packet.now)) c.from-size.ensures)
    c.plain_head.ensures c.put_head.ensures c.put_at.ensures.bytes c.put_at.ensures.put

pub returns-clause-size : goal.returns-clause-size
returns-clause-size c = plain_size c.args.shape.now c.args.packet.now c.part-payload.result.now c.args.index c.from-size.result c.requires.code c.from-size.ensures c.part-payload.ensures
