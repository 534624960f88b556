use Rattle.std.proofs.Common.{sym}
use Rattle.mod_feed.proofs.read.read_payload.Goals as goal

pub returns-then-whole-clause-carried : goal.returns-then-whole-clause-carried
returns-then-whole-clause-carried c =
    let known = c.requires.known c.if-whole.true in
    (known.0, known.1, sym (c.payload_of.ensures.payload known.0 known.1))
