use Rattle.cmd_pack.proofs.Runs.{pack_run}
use Rattle.cmd_pack.proofs.pack_command.pack.Goals as goal

pub returns : goal.returns
returns g c =
    record {
      run = pack_run c.args.id c.args.length c.pack_whole.result g.I.Source.known c.args.input.now c.pack_whole.new.input g.O.Sink.known c.args.out.now c.pack_whole.new.out
          c.pack_whole.ensures.ends c.pack_whole.ensures.memory c.pack_whole.ensures.read c.pack_whole.ensures.write;
    }
