use Rattle.std.proofs.Common.{refl, ◌∙◌}
use Rattle.cmd_serve.specs.Live.{LiveSendRun}
use Rattle.cmd_serve.proofs.LiveSendLemmas.{live_closed, live_unopened, live_over, live_nothing_sent, sent_read, sent_dock}
use Rattle.cmd_serve.proofs.serve_command.send.Goals as goal

pub returns-in-Group : goal.returns-in-Group
returns-in-Group g c =
    let to = c.args.to.now in
    let group = c.in-Group.group in
    let after = c.send_over-sent.new.group in
    let s' = c.send_over-sent.new.shelf in
    let d' = c.disband.new.self in
    let mid = g.D.Dock.known c.gather.new.self in
    let x = g.I.Source.known c.args.input.now in
    let y = g.I.Source.known c.send_over-sent.new.input in
    let same = c.disband.ensures.cause ∙ c.in-Group.ensures.cause.same (λ is. is) in
    let sent : LiveSendRun c.args.name.now to c.args.pace c.args.stretch c.args.live.now c.send_over-sent.result g.S.Shelf.known c.args.shelf.now s' g.I.Source.known c.args.input.now c.send_over-sent.new.input g.D.Dock.known c.args.dock.now d' =
    live_over c.one_delivery.ensures c.first_ones_are_prefix.ensures c.args.name.now to c.args.pace c.args.stretch c.args.live.now g.S.Shelf.known c.args.shelf.now s' g.D.Dock.known c.args.dock.now d'
    g.D.G.Group.known mid group after (g.D.G.Group.up after) c.in-Group.ensures.gathered c.disband.ensures.disbanded
    c.requires.different (g.D.G.Group.up group) c.in-Group.ensures.fresh.1 same c.send_over-sent.result x y c.send_over-sent.ensures.run in
    record {
      run = sent;
      nothing = c.send_over-sent.ensures.nothing;
      memory = λ e. c.send_over-sent.ensures.memory e;
      unsent = λ e.
          live_nothing_sent c.one_delivery.ensures c.first_ones_are_prefix.ensures c.args.name.now to c.args.pace c.args.stretch c.args.live.now g.S.Shelf.known c.args.shelf.now s' g.D.Dock.known c.args.dock.now d'
          c.send_over-sent.result x y c.requires.different sent e;
      read = λ none.
          sent_read c.one_delivery.ensures c.first_ones_are_prefix.ensures c.args.name.now to c.args.pace c.args.stretch c.args.live.now g.S.Shelf.known c.args.shelf.now s' g.D.Dock.known c.args.dock.now d'
          c.send_over-sent.result x y sent none;
      opening =
          sent_dock c.one_delivery.ensures c.first_ones_are_prefix.ensures c.args.name.now to c.args.pace c.args.stretch c.args.live.now g.S.Shelf.known c.args.shelf.now s' g.D.Dock.known c.args.dock.now d'
          c.send_over-sent.result x y sent;
      words = λ e. c.send_over-sent.ensures.words e;
      write = λ e. c.send_over-sent.ensures.write e;
    }

pub returns-in-NoMemory-clause-run : goal.returns-in-NoMemory-clause-run
returns-in-NoMemory-clause-run g c =
    live_unopened c.one_delivery.ensures c.first_ones_are_prefix.ensures c.args.name.now c.args.to.now c.args.pace c.args.stretch c.args.live.now g.S.Shelf.known c.args.shelf.now c.args.shelf.now g.D.Dock.known c.args.dock.now c.gather.new.self
    (g.I.Source.known c.args.input.now) (record { fault = refl; unread = refl; unopened = c.in-NoMemory.ensures.untouched refl })

pub returns-in-Failed-clause-run : goal.returns-in-Failed-clause-run
returns-in-Failed-clause-run g c =
    live_closed c.one_delivery.ensures c.first_ones_are_prefix.ensures c.args.name.now c.args.to.now c.args.pace c.args.stretch c.args.live.now g.S.Shelf.known c.args.shelf.now c.args.shelf.now g.D.Dock.known c.args.dock.now c.gather.new.self
    (g.I.Source.known c.args.input.now) (record { fault = refl; unread = refl; contents = c.in-Failed.ensures.gathered; once = c.in-Failed.ensures.cause.once tt })
