use Rattle.std.proofs.Common.{arith, refl}
use Rattle.dcp_pft.proofs.LaidOut.{chunk_laid}
use Rattle.dcp_pft.proofs.lay_out.lay_chunk.Goals as goal

pub returns-clause-laid : goal.returns-clause-laid
returns-clause-laid c =
    chunk_laid c.args.at c.args.k _ c.args.into.now c.put_at.new.into _ c.put_at-2.new.into c.args.chunk.now c.fill.new.self c.args.parity.now _ _ _
    c.requires.room c.requires.size c.requires.parity (omega (arith, c.put_at.auto.into)) (omega (arith, c.put_at.auto.into, c.fill.ensures.len))
    c.put_at.ensures.put (c.fill.ensures.after (λ y same. same)) (omega (arith, c.put_at.auto.into, c.requires)) refl c.put_at-2.ensures.put
