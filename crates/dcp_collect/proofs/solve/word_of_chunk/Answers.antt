use Rattle.std.proofs.Common.{◌+◌, ◌-◌, arith}
use Rattle.dcp_collect.proofs.StoredWords.{made_bytes, made_fill}
use Rattle.dcp_collect.proofs.solve.word_of_chunk.Goals as goal

pub returns-clause-bytes : goal.returns-clause-bytes
returns-clause-bytes c =
    made_bytes c.args.bytes.now c.put_at.new.into c.put_at-2.new.into c.args.k c.args.start (c.args.start + c.args.k - c.args.start) (c.args.start + c.args.k + 48 - (c.args.start + c.args.k)) c.requires.few c.requires.room (omega arith) (omega arith)
    c.put_at.ensures.put c.put_at-2.ensures.put

pub returns-clause-fill : goal.returns-clause-fill
returns-clause-fill c =
    made_fill c.args.bytes.now c.put_at.new.into c.put_at-2.new.into c.args.k c.args.start (c.args.start + c.args.k - c.args.start) (c.args.start + c.args.k + 48 - (c.args.start + c.args.k)) c.requires.few c.requires.room (omega arith) (omega arith)
    c.put_at.ensures.put c.put_at-2.ensures.put
