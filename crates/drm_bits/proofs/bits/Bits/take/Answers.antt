use Rattle.std.proofs.Common.{false, ◌+◌, ◌^◌, ◌≤◌, sym, ◌∙◌, arith, length, take, ap, ◌≡◌}
use Rattle.std.proofs.Math.Nat.{pow-le-pow_right}
use Rattle.std.proofs.lemmas.List.{length-take-le}
use Rattle.drm_bits.specs.Bits.{digits, value}
use Rattle.drm_bits.proofs.DigitsLemmas.{digits-value}
use Rattle.drm_bits.proofs.BitsLemmas.{take-step, doubled-below}
use Rattle.drm_bits.proofs.bits.Bits.take.Goals as goal

pub overflow_mul-number : goal.overflow_mul-number
overflow_mul-number c =
    let room : 2 ^ (c.loop.counter + 1) ≤ 2 ^ 64 = pow-le-pow_right (omega arith) {i = c.loop.counter + 1} {j = 64} (omega (arith, c.requires)) in
    omega (arith, doubled-below c.loop.number c.loop.counter false c.loop.invariant.3, room)

pub overflow_add-number : goal.overflow_add-number
overflow_add-number c =
    let room : 2 ^ (c.loop.counter + 1) ≤ 2 ^ 64 = pow-le-pow_right (omega arith) {i = c.loop.counter + 1} {j = 64} (omega (arith, c.requires)) in
    omega (arith, doubled-below c.loop.number c.loop.counter c.next_bit.result c.loop.invariant.3, room, c.from.ensures)

pub loop-preserved : goal.loop-preserved
loop-preserved c =
    let step = take-step c.args.self.now c.next_bit.new.self c.next_bit.result c.loop.counter c.loop.number c.loop.invariant.0 (sym c.next_bit.ensures ∙ c.loop.invariant.1) in
    let below = doubled-below c.loop.number c.loop.counter c.next_bit.result c.loop.invariant.3 in
    rw c.from.ensures (step.0, step.1, c.loop.invariant.2, below)

pub returns-clause-spelled : goal.returns-clause-spelled
returns-clause-spelled c =
    let size : length (take c.args.n c.args.self.now) ≡ c.args.n = length-take-le c.args.n c.args.self.now (omega arith) in
    let all : c.loop.counter ≡ c.args.n = omega arith in
    let number : c.loop.number ≡ value (take c.args.n c.args.self.now) = c.loop.invariant.0 ∙ ap (λ k. value (take k c.args.self.now)) all in
    sym (ap (digits c.args.n) number ∙ digits-value c.args.n (take c.args.n c.args.self.now) size)
