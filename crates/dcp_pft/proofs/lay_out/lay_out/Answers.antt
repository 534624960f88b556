use Rattle.std.proofs.Common.{ℕ, ◌≡◌, ◌+◌, ◌-◌, ◌*◌, ◌/◌, ◌∙◌, ◌++◌, List, length, drop, replicate, ap, arith, length-drop}
use Rattle.std.proofs.lemmas.List.{length-take-le}
use Rattle.dcp_pft.specs.Coding.{coded}
use Rattle.dcp_pft.proofs.LaidOut.{one_chunk, all_chunks}
use Rattle.dcp_pft.proofs.lay_out.lay_out.Goals as goal

pub lay_chunk-requires-clause-parity : goal.lay_chunk-requires-clause-parity
lay_chunk-requires-clause-parity c =
    ap length c.part-chunk_parity.ensures ∙ length-take-le 48 (drop (c.loop-i.i * 48) c.args.parity.now) (omega (arith, c.loop-i-test.true, length-drop (c.loop-i.i * 48) c.args.parity.now))

pub loop-i-preserved : goal.loop-i-preserved
loop-i-preserved c = λ n z whole long.
    one_chunk n c.from-k.result z c.loop-i.i c.args.packet.now c.args.parity.now c.part-chunk.result.now c.part-chunk_parity.result.now c.loop-i.into c.lay_chunk.new.into
    whole (omega (arith, long, c.loop-i-test.true)) c.part-chunk.ensures c.part-chunk_parity.ensures c.lay_chunk.ensures.laid (c.loop-i.invariant n z whole long)

pub returns-clause-laid : goal.returns-clause-laid
returns-clause-laid c = λ n z whole long.
    let k : ℕ = c.from-k.result in
    let packet : List ℕ = c.args.packet.now ++ replicate z 0 in
    let whole_in : n * k ≡ length c.args.packet.now + z = ap (λ (m : ℕ). n * m) c.from-k.ensures ∙ whole in
    let chunks : length c.args.parity.now / 48 ≡ c.loop-i.i = omega (arith, c.loop-i-test.false, c.loop-i.auto.i-end) in
    all_chunks n k c.loop-i.i packet c.args.parity.now c.loop-i.into _ c.fill_rest.new.into (omega (arith, long, c.loop-i-test.false, c.loop-i.auto.i-end))
    (c.loop-i.invariant n z whole_in long) (length c.args.parity.now / 48 * (k + 48)) (ap (λ (m : ℕ). m * (k + 48)) chunks) (length c.args.into.now) (omega arith) c.fill_rest.ensures
    ∙ ap (λ (m : ℕ). coded n m packet c.args.parity.now ++ replicate (length c.args.into.now - n * (m + 48)) 0) c.from-k.ensures
