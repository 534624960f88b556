use Rattle.std.proofs.lemmas.Result.{err_from_is_err_and}
use Rattle.text_output.proofs.TextLemmas.{next_broken}
use Rattle.cmd_unpack.specs.Lines.{escaped}
use Rattle.cmd_unpack.proofs.lines.write_escaped.Goals as goal

pub returns-in_err-write_byte : goal.returns-in_err-write_byte
returns-in_err-write_byte g c =
    let p = err_from_is_err_and c.from_residual.result c.from_residual.ensures.1 in
    rw p.1
    (next_broken escaped c.args.bytes.now c.loop-byte.byte-index _ c.loop-byte-test.true (g.O.Sink.known c.args.out.now) (g.O.Sink.known c.loop-byte.out) (g.O.Sink.known c.write_byte.new.out) c.write_byte.result c.in_err-write_byte.field-0.0 p.0
    c.loop-byte.invariant.0 c.loop-byte.invariant.1 c.in_err-write_byte.was c.write_byte.ensures)
