use Rattle.std.proofs.Common.{◌≡◌, ◌≤◌, length, ◌+◌, ◌-◌, take, drop, ◌∙◌, arith}
use Rattle.std.proofs.lemmas.Grind.{common_steps}
use Rattle.std.proofs.lemmas.Slice.{take-put_mid_below}
use borrow.Rule.Slice.PartMut.{put_mid}
use Rattle.cmd_show.proofs.HeadLemmas.{got_more, asks_more, head_full, head_end}
use Rattle.cmd_show.proofs.head.read_head.Goals as goal
use Rattle.cmd_show.proofs.head.read_head.Goals.{else-loop-len-test, then-loop-len-test+in-End}

pub loop-len-preserved : goal.loop-len-preserved
loop-len-preserved g c =
    let size : length c.loop-len.bytes ≡ c.loop-len.len + (10 - c.loop-len.len) = omega (arith, c.loop-len.invariant.1, c.loop-len.invariant.2) in
    let same : length c.read.new.buf ≡ length (take (10 - c.loop-len.len) (drop c.loop-len.len c.loop-len.bytes)) = c.read.auto.buf in
    let within : c.in-Got.n ≤ length c.read.new.buf = omega (arith, same, c.in-Got.ensures.moves_bytes.1) in
    let room : length (take (10 - c.loop-len.len) (drop c.loop-len.len c.loop-len.bytes)) ≡ 10 - c.loop-len.len = grind (arith, common_steps, c.loop-len.invariant.1) in (
      got_more (g.I.Source.known c.args.input.now) (g.I.Source.known c.loop-len.input) (g.I.Source.known c.read.new.self) c.loop-len.len c.in-Got.n (10 - c.loop-len.len) c.loop-len.bytes c.read.new.buf size c.in-Got.ensures.moves_bytes.0 within (c.in-Got.ensures.cause.same (λ failed. cc)) c.loop-len.invariant.0 c.in-Got.ensures.bytes c.in-Got.ensures.counts_call,
      grind (arith, common_steps, c.loop-len.invariant.1, same, room),
      omega (arith, same, within, room, c.loop-len.invariant.2),
      c.in-Got.ensures.cause.same (λ failed. cc) ∙ c.loop-len.invariant.3,
      asks_more c.loop-len.len (c.loop-len.len + c.in-Got.n) (g.I.Source.known c.args.input.now) (g.I.Source.known c.loop-len.input) (g.I.Source.known c.read.new.self) (omega (arith, c.in-Got.ensures.moves_bytes.0)) c.loop-len.invariant.4 c.in-Got.ensures.counts_call,
    )

pub returns-clause-read : goal.returns-clause-read
returns-clause-read g c = elim c.loop-len-test.branch [
  | else-loop-len-test w ↦
      rw (w.input-is, w.bytes-is) (head_full (g.I.Source.known c.args.input.now) (g.I.Source.known c.loop-len.input) c.loop-len.len c.loop-len.bytes c.loop-len.invariant.1 c.loop-len.invariant.2 w.loop-len-test.false c.loop-len.invariant.0 c.loop-len.invariant.4)
  | then-loop-len-test+in-End w ↦
      let same : take c.loop-len.len (put_mid c.loop-len.len (10 - c.loop-len.len) c.loop-len.bytes w.read.new.buf) ≡ take c.loop-len.len c.loop-len.bytes =
      take-put_mid_below c.loop-len.len (10 - c.loop-len.len) c.loop-len.bytes w.read.new.buf c.loop-len.len (omega arith) (omega (arith, c.loop-len.invariant.1, c.loop-len.invariant.2)) in
      rw (w.input-is, w.bytes-is, same) (head_end (g.I.Source.known c.args.input.now) (g.I.Source.known c.loop-len.input) (g.I.Source.known w.read.new.self) c.loop-len.len c.loop-len.bytes w.read.new.buf c.loop-len.invariant.1 w.loop-len-test.true c.loop-len.invariant.0 c.loop-len.invariant.4 (w.in-End.ensures.cause.same (λ failed. cc)) w.in-End.ensures.bytes w.in-End.ensures.counts_call)
]
