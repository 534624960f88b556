use Rattle.std.proofs.Common.{◌≡◌, ◌+◌, ◌-◌, ◌*◌, ◌≤◌, ◌∙◌, ap, arith, bit_xor, get_or, length, map, refl, rules, ℕ}
use Rattle.std.proofs.lemmas.Simd.{get_or-zip2}
use Rattle.gf_field.specs.Field.{times}
use Rattle.rs_erase.specs.Spaced.{spaced_sum}
use Rattle.rs_erase.proofs.SpacedSums.{next_sum, no_sum_yet, row_at, row_length}
use Rattle.rs_erase.proofs.spaced.sums_of_run.Goals as goal

pub loop-p-init : goal.loop-p-init
loop-p-init c = λ i lt. no_sum_yet c.args.table.now c.args.symbols.now _ i

pub loop-p-preserved : goal.loop-p-preserved
loop-p-preserved c = λ i lt.
    let first = 207 - c.from-first.result in
    let p = c.loop-p.p in
    let table = c.args.table.now in
    let row = c.scaled-sums.result in
    let room : 16 * (first + p) + 16 ≤ length table = omega arith in
    let f = get_or c.args.symbols.now p 0 in
    let is = c.scaled-sums.ensures ∙ ap (map (times f)) c.lanes_from.ensures in
    let ll : length c.loop-p.sums ≡ 16 = search rules in
    let lr = row_length table row f (first + p) room is in
    next_sum table c.args.symbols.now c.loop-p.sums row _ first p i f lt ll lr refl (row_at table row f (first + p) i room lt is)
    (get_or-zip2 bit_xor c.loop-p.sums row i 0 0 0 (omega arith) (omega arith)) (c.loop-p.invariant i lt)

pub returns : goal.returns
returns c = λ small i lt.
    let end : c.loop-p.p ≡ 48 = omega arith in
    c.loop-p.invariant i lt ∙ ap (λ (p : ℕ). spaced_sum c.args.table.now c.args.symbols.now (207 - c.from-first.result) i p) end
    ∙ ap (λ (n : ℕ). spaced_sum c.args.table.now c.args.symbols.now (207 - n) i 48) c.from-first.ensures
