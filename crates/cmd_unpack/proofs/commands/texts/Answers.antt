use Rattle.cmd_unpack.specs.Streams.{TextsOf}
use Rattle.cmd_unpack.proofs.TakerLemmas.{no_messages}
use Rattle.cmd_unpack.proofs.Endings.{data_run}
use Rattle.cmd_unpack.proofs.commands.texts.Goals as goal

pub returns : goal.returns
returns g c =
    record {
      run = data_run c.read_one_way.ensures c.packets_in_front.ensures c.args.range.now (TextsOf c.args.stream) c.take_capture.result
          g.I.Source.known c.args.input.now c.take_capture.new.input g.O.Sink.known c.args.out.now c.take_capture.new.out
          (c.take_capture.ensures.ends (TextsOf c.args.stream) (no_messages c.args.stream c.new.result c.no_counts.result c.new.ensures c.no_counts.ensures)) c.take_capture.ensures.memory c.take_capture.ensures.read c.take_capture.ensures.write;
    }
