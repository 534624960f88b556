use Rattle.std.proofs.Common.{ℕ, ◌+◌, List, length, Ok, Err, refl, sym, ◌∙◌, ap, subst, arith}
use Rattle.std.specs.Prelude.{not, ◌&&◌}
use Rattle.std.proofs.lemmas.Result.{err_from_is_err_and}
use Rattle.drm_links.proofs.KnownLemmas.{counts_one, counts_none, counts_then, once_then, done_counts, failed_counts}
use Rattle.drm_links.proofs.WritingLemmas.{Writes-done, Writes-front}
use Rattle.capture_reader.proofs.FrontLaws.{packet_size}
use Rattle.cmd_faults.specs.declared.fault.Fault.TheVariants as faults
use Rattle.cmd_faults.specs.Captures.{stop_fault}
use Rattle.cmd_show.proofs.ShowLemmas.{HasShown, shown_none, still_shown, shows_next, shown_more, stopped, cut, done, cut_end, show_run, not_stopped, early, stop_early, stop_no_memory, stop_no_write, stopped_counts, found_counts, write_no_memory, write_no_read, was_shown, not_shown, failed}
use Rattle.cmd_show.proofs.show_command.show_packets.Goals as goal

pub loop-packets-init : goal.loop-packets-init
loop-packets-init g c = (
  shown_none (g.I.Source.known c.args.input.now) (g.O.Sink.known c.args.out.now) c.args.packets.now c.requires.packets,
  omega arith,
  refl,
  refl,
)

pub returns-in_err-find : goal.returns-in_err-find
returns-in_err-find g c =
    let i = c.loop-packets.invariant in
    let before = g.I.Source.known c.args.input.now in
    let stop = c.in_err-find.field-0.0 in
    let p = err_from_is_err_and c.from_residual.result c.from_residual.ensures.1 in
    rw (p.1 ∙ ap Err p.2)
    (show_run c.read_one_way.ensures c.one_text.ensures g.I.Source.known c.args.input.now c.find.new.input g.O.Sink.known c.args.out.now c.loop-packets.out (Err (stop_fault stop))
    (λ fault is. early (stop_fault stop) fault (stop_early stop) is)
    (stopped (g.O.Sink.known c.args.out.now) (g.O.Sink.known c.loop-packets.out) c.loop-packets.packets before (g.I.Source.known c.loop-packets.input) c.loop-packets.count c.loop-packets.bytes c.loop-packets.clean i.0 stop (g.I.Source.known c.find.new.input)
    (c.in_err-find.ensures.stops i.0.packets before i.0.read))
    (λ is. absurd (stop_no_memory stop is))
    (counts_then i.2 (stopped_counts c.in_err-find.was c.find.ensures.cause))
    (counts_none (stop_no_write stop) i.3))

pub returns-in_default : goal.returns-in_default
returns-in_default g c =
    let i = c.loop-packets.invariant in
    let before = g.I.Source.known c.args.input.now in
    let after = g.I.Source.known c.find.new.input in
    let shown = c.show_packet.ensures in
    let bytes : List ℕ = c.next.result.bytes.now in
    let read = c.find.ensures.more i.0.packets before i.0.read (not_stopped c.find.result c.in_ok-find.field-0 c.in_ok-find.was) in
    let next = shows_next i.0 read (c.next.follows.holds-at-none.reads i.0.packets before after read) c.next.ensures.at shown in
    show_run c.read_one_way.ensures c.one_text.ensures g.I.Source.known c.args.input.now c.find.new.input g.O.Sink.known c.args.out.now c.show_packet.new.out (Err faults.Write)
    (λ fault is. early faults.Write fault tt is)
    (cut c.next.follows.lender-at-none before after (g.O.Sink.known c.args.out.now) (g.O.Sink.known c.loop-packets.out) (g.O.Sink.known c.show_packet.new.out) c.loop-packets.count c.loop-packets.bytes c.loop-packets.clean bytes shown.text shown.bad next
    (not_shown c.show_packet.result _ c.in_default.not-Ok shown.front))
    (λ is. absurd (write_no_memory is))
    (counts_none write_no_read (found_counts c.in_ok-find.was c.find.ensures.cause ∙ i.2))
    (counts_one refl (once_then i.3 (shown.cause.once (failed c.show_packet.result c.in_default.not-Ok))))

pub loop-packets-preserved : goal.loop-packets-preserved
loop-packets-preserved g c =
    let i = c.loop-packets.invariant in
    let before = g.I.Source.known c.args.input.now in
    let after = g.I.Source.known c.find.new.input in
    let shown = c.show_packet.ensures in
    let bytes : List ℕ = c.next.result.bytes.now in
    let read = c.find.ensures.more i.0.packets before i.0.read (not_stopped c.find.result c.in_ok-find.field-0 c.in_ok-find.was) in
    let next = shows_next i.0 read (c.next.follows.holds-at-none.reads i.0.packets before after read) c.next.ensures.at shown in
    let whole = was_shown c.show_packet.result c.in-Ok.bad _ c.in-Ok.is shown.whole in
    let some = (packet_size bytes (length bytes) c.next.ensures.whole).0 in
    let few = i.1 in (
      subst (HasShown c.next.follows.lender-at-none before after (g.O.Sink.known c.args.out.now) (g.O.Sink.known c.show_packet.new.out) (c.loop-packets.count + 1) (c.loop-packets.bytes + length bytes))
          (ap (λ b. c.loop-packets.clean && not b) (sym whole.0))
          (shown_more c.next.follows.lender-at-none before after (g.O.Sink.known c.args.out.now) (g.O.Sink.known c.loop-packets.out) (g.O.Sink.known c.show_packet.new.out) c.loop-packets.count c.loop-packets.bytes c.loop-packets.clean bytes shown.text shown.bad next whole.1),
      omega (arith, some, few),
      found_counts c.in_ok-find.was c.find.ensures.cause ∙ i.2,
      done_counts c.in-Ok.is shown.cause ∙ i.3,
    )

pub returns-in_err-write_end_packets : goal.returns-in_err-write_end_packets
returns-in_err-write_end_packets g c =
    let i = c.loop-packets.invariant in
    let before = g.I.Source.known c.args.input.now in
    let after = g.I.Source.known c.find.new.input in
    let read = c.find.ensures.more i.0.packets before i.0.read (not_stopped c.find.result c.in_ok-find.field-0 c.in_ok-find.was) in
    let has = still_shown i.0 read in
    let ended = c.find.ensures.ended i.0.packets before i.0.read (c.in_ok-find.was ∙ ap Ok c.if-branch.false) in
    let p = err_from_is_err_and c.from_residual-in_err-write_end_packets.result c.from_residual-in_err-write_end_packets.ensures.1 in
    rw (p.1 ∙ ap Err p.2)
    (show_run c.read_one_way.ensures c.one_text.ensures g.I.Source.known c.args.input.now c.find.new.input g.O.Sink.known c.args.out.now c.write_end_packets.new.out (Err faults.Write)
    (λ fault is. early faults.Write fault tt is)
    (cut_end (g.O.Sink.known c.args.out.now) (g.O.Sink.known c.loop-packets.out) c.find.new.self before after c.loop-packets.count c.loop-packets.bytes c.loop-packets.clean has ended (g.O.Sink.known c.write_end_packets.new.out)
    (Writes-front c.in_err-write_end_packets.was c.write_end_packets.ensures))
    (λ is. absurd (write_no_memory is))
    (counts_none write_no_read (found_counts c.in_ok-find.was c.find.ensures.cause ∙ i.2))
    (counts_one refl (once_then i.3 (failed_counts c.in_err-write_end_packets.was c.write_end_packets.ensures.cause))))

pub returns : goal.returns
returns g c =
    let i = c.loop-packets.invariant in
    let before = g.I.Source.known c.args.input.now in
    let after = g.I.Source.known c.find.new.input in
    let read = c.find.ensures.more i.0.packets before i.0.read (not_stopped c.find.result c.in_ok-find.field-0 c.in_ok-find.was) in
    let has = still_shown i.0 read in
    let ended = c.find.ensures.ended i.0.packets before i.0.read (c.in_ok-find.was ∙ ap Ok c.if-branch.false) in
    show_run c.read_one_way.ensures c.one_text.ensures g.I.Source.known c.args.input.now c.find.new.input g.O.Sink.known c.args.out.now c.write_end_packets.new.out (Ok c.loop-packets.clean)
    (λ fault is. absurd cc)
    (done (g.O.Sink.known c.args.out.now) (g.O.Sink.known c.loop-packets.out) c.find.new.self before after c.loop-packets.count c.loop-packets.bytes c.loop-packets.clean has ended (g.O.Sink.known c.write_end_packets.new.out)
    (Writes-done c.in_ok-write_end_packets.was c.write_end_packets.ensures))
    (λ is. absurd cc)
    (counts_none (λ is. cc) (found_counts c.in_ok-find.was c.find.ensures.cause ∙ i.2))
    (counts_none (λ is. cc) (done_counts c.in_ok-write_end_packets.was c.write_end_packets.ensures.cause ∙ i.3))
