use Rattle.std.proofs.Common.{◌*◌, ◌++◌, replicate, ◌≡◌, ◌<◌, length, arith}
use Rattle.dcp_pft.proofs.Parities.{one_more, are_parities}
use Rattle.dcp_pft.proofs.coding.code_chunks.Goals as goal

pub loop-i-preserved : goal.loop-i-preserved
loop-i-preserved c = λ n z whole small long.
    let below : c.loop-i.i < n = omega (arith, c.loop-i-test.true, c.loop-i.auto.parity) in
    one_more n c.args.k z c.loop-i.i c.args.packet.now c.part.result.now c.loop-i.parity c.code_chunk.new.parity whole small c.requires.size below c.part.ensures
    c.code_chunk.ensures.before c.code_chunk.ensures.code_word (c.loop-i.invariant n z whole small (omega arith))

pub returns : goal.returns
returns c = λ n z whole small long.
    let all : length c.loop-i.parity ≡ 48 * n = omega arith in
    are_parities n c.args.k (c.args.packet.now ++ replicate z 0) c.loop-i.parity all
    (λ j lt. c.loop-i.invariant n z whole small all j (omega (arith, c.loop-i-test.false)))
