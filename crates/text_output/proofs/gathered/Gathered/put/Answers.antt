use Rattle.std.proofs.lemmas.Result.{err_from_is_err_and}
use Rattle.text_output.proofs.GatheringLemmas.{put_cut}
use Rattle.text_output.proofs.gathered.Gathered.put.Goals as goal

pub returns-in_err-flush : goal.returns-in_err-flush
returns-in_err-flush g c =
    let p = err_from_is_err_and c.from_residual.result c.from_residual.ensures.1 in
    rw p.1 (put_cut c.args.self.now c.flush.new.self c.args.text.now (g.O.Sink.known c.args.out.now) (g.O.Sink.known c.flush.new.out) c.flush.result c.in_err-flush.field-0.0 p.0 c.in_err-flush.was c.flush.ensures.writes)
