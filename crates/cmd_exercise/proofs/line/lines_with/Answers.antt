use Rattle.std.proofs.Common.{length, take, sym, ◌∙◌, ap, arith}
use Rattle.cmd_exercise.specs.Exercise.{begins, lines_with}
use Rattle.cmd_exercise.proofs.LineCounts.{line_more, line_last, end_within, one_bit, shorter}
use Rattle.cmd_exercise.proofs.line.lines_with.Goals as goal

pub loop-end-preserved : goal.loop-end-preserved
loop-end-preserved c =
    let front = c.args.front.now in
    let end = c.in-Some.end in
    let is = sym c.line_end.ensures ∙ c.in-Some.is in
    let more = line_more front c.loop-end.rest.now end is in
    let here = c.one_if_begins-count.ensures in
    let bit = one_bit (begins front (take end c.loop-end.rest.now)) in
    let rest = ap (lines_with front) c.behind-rest.ensures in
    let less = shorter c.loop-end.rest.now end (end_within c.loop-end.rest.now end is) in
    let size = ap length c.behind-rest.ensures in
    let all = c.loop-end.invariant.0 in
    let few = c.loop-end.invariant.1 in
    (omega (arith, more, here, rest, all), omega (arith, here, bit, less, size, few))

pub returns : goal.returns
returns c =
    let last = line_last c.args.front.now c.loop-end.rest.now (sym c.line_end.ensures ∙ c.in_default.is) in
    let here = c.one_if_begins.ensures in
    let all = c.loop-end.invariant.0 in
    omega (arith, last, here, all)
