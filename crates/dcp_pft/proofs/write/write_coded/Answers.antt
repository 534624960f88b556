use Rattle.std.proofs.Common.{◌+◌, ◌≤◌, arith, length}
use Rattle.dcp_pft.proofs.Fragments.{coded_writes, parity_few, room_is}
use Rattle.dcp_pft.proofs.Shapes.{has_code}
use Rattle.dcp_pft.proofs.write.write_coded.Goals as goal

pub coded_head-requires : goal.coded_head-requires
coded_head-requires c =
    let has = has_code (length c.args.packet.now) c.args.shape.now c.args.rs c.requires.shape c.requires.code in omega (arith, has.piece)

pub slice_bounds-interleave-end : goal.slice_bounds-interleave-end
slice_bounds-interleave-end c =
    let has = has_code (length c.args.packet.now) c.args.shape.now c.args.rs c.requires.shape c.requires.code in
    let within : 16 + c.from.result ≤ 1500 = omega (arith, has.piece) in within

pub interleave-requires : goal.interleave-requires
interleave-requires c = parity_few c.args.shape.now c.args.rs c.args.packet.now c.args.parity.now c.requires.shape c.requires.code c.requires.parity

pub returns : goal.returns
returns c =
    let has = has_code (length c.args.packet.now) c.args.shape.now c.args.rs c.requires.shape c.requires.code in
    coded_writes c.args.shape.now c.args.rs c.args.seq c.args.index c.args.packet.now c.args.parity.now c.coded_head.result c.args.into.now c.put_head.new.into c.interleave.new.into
    c.requires.shape c.requires.code c.requires.parity c.coded_head.ensures c.put_head.ensures c.interleave.ensures.bytes c.from.result _ c.from.ensures
    (room_is c.put_head.new.into c.args.into.now c.from.result c.args.shape.now.piece (omega (arith, c.put_head.auto.into)) c.told-into c.from.ensures has.piece)
    c.interleave.ensures.every
