use Rattle.dcp_pft.proofs.AllWritten.{payload_writes}
use Rattle.dcp_pft.proofs.write.write_payload.Goals as goal

pub returns-clause-fragment : goal.returns-clause-fragment
returns-clause-fragment c =
    payload_writes c.args.shape.now c.args.rs c.args.seq c.args.index c.args.payload.now c.coded_head.result c.args.into.now c.put_head.new.into c.put_at.new.into
    c.requires.piece c.requires.within_limit c.coded_head.ensures c.put_head.ensures c.put_at.ensures.bytes c.put_at.ensures.put
