use Rattle.std.proofs.Common.{Err, ap, ◌∙◌}
use Rattle.std.proofs.lemmas.Result.{err_from_is_err_and}
use Rattle.cmd_unpack.specs.Streams.{UnitsOf}
use Rattle.cmd_unpack.proofs.TakerLemmas.{no_units}
use Rattle.cmd_unpack.proofs.Endings.{data_run, memory_run}
use Rattle.cmd_unpack.proofs.commands.unpack.Goals as goal

pub returns-in_err-joiner : goal.returns-in_err-joiner
returns-in_err-joiner g c =
    let p = err_from_is_err_and c.from_residual.result c.from_residual.ensures.1 in
    record {
      run = rw (p.1 ∙ ap Err p.2)
          (memory_run c.read_one_way.ensures c.packets_in_front.ensures c.args.range.now (UnitsOf c.args.stream c.args.id c.args.length) g.I.Source.known c.args.input.now g.O.Sink.known c.args.out.now);
    }

pub returns : goal.returns
returns g c =
    record {
      run = data_run c.read_one_way.ensures c.packets_in_front.ensures c.args.range.now (UnitsOf c.args.stream c.args.id c.args.length) c.take_capture.result
          g.I.Source.known c.args.input.now c.take_capture.new.input g.O.Sink.known c.args.out.now c.take_capture.new.out
          (c.take_capture.ensures.ends (UnitsOf c.args.stream c.args.id c.args.length) (no_units c.args.stream c.args.id c.args.length c.in_ok-joiner.joiner c.no_counts.result c.in_ok-joiner.ensures c.no_counts.ensures)) c.take_capture.ensures.memory c.take_capture.ensures.read c.take_capture.ensures.write;
    }
