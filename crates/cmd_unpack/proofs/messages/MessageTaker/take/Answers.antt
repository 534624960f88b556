use Rattle.std.proofs.Common.{◌≡◌, ◌+◌, refl, ap, arith}
use Rattle.mod_feed.specs.Items.{Frame}
use Rattle.mdi_items.specs.Frame.{frame_of}
use Rattle.drm_text.specs.Taking.{text_of}
use Rattle.cmd_unpack.specs.declared.messages.MessageTaker.{MessageTaker}
use Rattle.cmd_unpack.specs.Streams.{entries_of, lacking}
use Rattle.cmd_unpack.specs.Taken.{message_line}
use Rattle.cmd_unpack.proofs.Items.{on_ok, message_gap, message_piece}
use Rattle.cmd_unpack.proofs.messages.MessageTaker.take.Goals as goal

pub returns-in-Some-clause-takes : goal.returns-in-Some-clause-takes
returns-in-Some-clause-takes g c = λ items text took.
    let t : MessageTaker = c.args.self.now in
    let u : MessageTaker = record { stream = t.stream; joiner = c.take_piece.new.joiner; counts = c.take_piece.new.counts } in
    let is = c.in-Some.ensures.0 in
    let p = c.take_piece.ensures in
    rw c.in-Frame.is
    (record {
      after = u;
      line = message_line (text_of p.said);
      took = message_piece t.stream items (Frame c.in-Frame.index (frame_of c.in-Frame.view) c.in-Frame.view.payload.now) text t u c.in-Some.piece p.said took
          (ap entries_of is) refl p.tells p.left_is p.counts_are (ap lacking is) refl;
      writes = p.writes;
      after_is = on_ok c.take_piece.result (u ≡ u) refl;
    })

pub returns-in-None-clause-takes : goal.returns-in-None-clause-takes
returns-in-None-clause-takes g c = λ items text took.
    let t : MessageTaker = c.args.self.now in
    let u : MessageTaker = record { stream = t.stream; joiner = c.gap.new.self; counts = record t.counts { bad = t.counts.bad + 1 } } in
    rw c.in-Frame.is
    (message_gap t.stream items (Frame c.in-Frame.index (frame_of c.in-Frame.view) c.in-Frame.view.payload.now) text t u (g.O.Sink.known c.args.out.now) took
    (ap entries_of c.in-None.ensures) refl c.gap.ensures refl refl (let lacks = ap lacking c.in-None.ensures in omega (arith, lacks)) (omega arith))

pub returns-in-Missing-clause-takes : goal.returns-in-Missing-clause-takes
returns-in-Missing-clause-takes g c = λ items text took.
    let t : MessageTaker = c.args.self.now in
    let u : MessageTaker = record { stream = t.stream; joiner = c.gap-in-Missing.new.self; counts = record t.counts { missing = t.counts.missing + 1 } } in
    rw c.in-Missing.is (message_gap t.stream items _ text t u (g.O.Sink.known c.args.out.now) took refl refl c.gap-in-Missing.ensures refl refl (omega arith) (omega arith))

pub returns-in-Bad-clause-takes : goal.returns-in-Bad-clause-takes
returns-in-Bad-clause-takes g c = λ items text took.
    let t : MessageTaker = c.args.self.now in
    let u : MessageTaker = record { stream = t.stream; joiner = c.gap-in-Bad.new.self; counts = record t.counts { bad = t.counts.bad + 1 } } in
    rw c.in-Bad.is (message_gap t.stream items _ text t u (g.O.Sink.known c.args.out.now) took refl refl c.gap-in-Bad.ensures refl refl (omega arith) (omega arith))
