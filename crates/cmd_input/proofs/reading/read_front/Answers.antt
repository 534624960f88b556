use Rattle.std.proofs.Common.{◌≡◌, ◌≤◌, length, ◌+◌, ◌-◌, take, drop, refl, subst, ◌∙◌, arith}
use Rattle.std.proofs.lemmas.Grind.{common_steps}
use Rattle.cmd_input.proofs.Filling.{filled_more, filled_failed}
use Rattle.cmd_input.specs.Input.{FailsBehind}
use Rattle.cmd_input.proofs.reading.read_front.Goals as goal

pub loop-len-preserved : goal.loop-len-preserved
loop-len-preserved g c =
    let (filled, size, within, still) = c.loop-len.invariant in
    let n : length c.loop-len.buffer ≡ c.loop-len.len + (length c.loop-len.buffer - c.loop-len.len) = omega (arith, within) in
    let same : length c.read.new.buf ≡ length (take (length c.loop-len.buffer - c.loop-len.len) (drop c.loop-len.len c.loop-len.buffer)) = c.read.auto.buf in
    let room : length (take (length c.loop-len.buffer - c.loop-len.len) (drop c.loop-len.len c.loop-len.buffer)) ≡ length c.loop-len.buffer - c.loop-len.len = grind (arith, common_steps, within) in
    let few : c.in-Got.n ≤ length c.read.new.buf = omega (arith, same, c.in-Got.ensures.moves_bytes.1) in (
      filled_more (g.I.Source.known c.args.input.now) (g.I.Source.known c.loop-len.input) (g.I.Source.known c.read.new.self) c.loop-len.len c.in-Got.n (length c.loop-len.buffer - c.loop-len.len) c.loop-len.buffer c.read.new.buf n c.in-Got.ensures.moves_bytes.0 few (c.in-Got.ensures.cause.same (λ failed. cc)) filled c.in-Got.ensures.bytes c.in-Got.ensures.counts_call,
      grind (arith, common_steps, size, same, room, within),
      grind (arith, common_steps, same, room, few, within),
      c.in-Got.ensures.cause.same (λ failed. cc) ∙ still,
    )

pub returns-in-Failed-clause-failed : goal.returns-in-Failed-clause-failed
returns-in-Failed-clause-failed g c =
    let (filled, size, within, still) = c.loop-len.invariant in
    subst (λ n. FailsBehind n (g.I.Source.known c.args.input.now) (g.I.Source.known c.read.new.self)) size
    (filled_failed (g.I.Source.known c.args.input.now) (g.I.Source.known c.loop-len.input) (g.I.Source.known c.read.new.self) c.loop-len.len c.loop-len.buffer c.read.new.buf c.loop-len-test.true filled (c.in-Failed.ensures.cause.once refl) c.in-Failed.ensures.bytes c.in-Failed.ensures.counts_call)
