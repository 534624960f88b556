use Rattle.std.proofs.Common.{ap, subst, Err, ◌∙◌}
use Rattle.std.proofs.lemmas.Result.{err_from_is_err_and}
use Rattle.drm_links.proofs.KnownLemmas.{counts_as}
use Rattle.cmd_convert.specs.Reading.{ending_of}
use Rattle.cmd_convert.specs.Run.{ConvertEnds}
use Rattle.cmd_convert.proofs.Endings.{not_memory, by_read, by_write}
use Rattle.cmd_convert.proofs.Exactly.{convert_run, memory_run}
use Rattle.cmd_convert.proofs.command.convert.Goals as goal

pub returns-in_err-collector : goal.returns-in_err-collector
returns-in_err-collector g c =
    let p = err_from_is_err_and c.from_residual.result c.from_residual.ensures.1 in
    record {
      run = rw (p.1 ∙ ap Err p.2)
          (memory_run c.read_one_way.ensures c.read_some_way.ensures c.packets_in_front.ensures _ c.args.carry c.args.err_ok.now
          g.I.Source.known c.args.input.now g.O.Sink.known c.args.out.now g.E.Sink.known c.args.err.now);
    }

pub returns : goal.returns
returns g c =
    let run = c.convert_packets-converted in
    let clean = run.new.progress.clean in
    record {
      run = rw c.ending.ensures
          (convert_run c.read_one_way.ensures c.read_some_way.ensures c.packets_in_front.ensures _ c.args.carry (ending_of run.result clean) run.new.progress.err_ok
          g.I.Source.known c.args.input.now run.new.input g.O.Sink.known c.args.out.now run.new.out g.E.Sink.known c.args.err.now run.new.err
          (subst (λ k. ConvertEnds c.args.range.now k (ending_of run.result clean) run.new.progress.err_ok
          (g.I.Source.known c.args.input.now) (g.I.Source.known run.new.input) (g.O.Sink.known c.args.out.now) (g.O.Sink.known run.new.out) (g.E.Sink.known c.args.err.now) (g.E.Sink.known run.new.err))
          c.in_ok-collector.ensures.1 run.ensures.ends)
          (λ is. absurd (not_memory run.result clean is))
          (counts_as (by_read run.result clean) (λ is. ap (λ r. ending_of r clean) is) run.ensures.read)
          (counts_as (by_write run.result clean) (λ is. ap (λ r. ending_of r clean) is) run.ensures.write));
    }
