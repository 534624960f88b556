use Rattle.std.proofs.Common.{◌≡◌, ◌+◌, ◌-◌, ◌*◌, ◌<◌, ◌∙◌, ap, arith, get_or, inl, inr, length, rules, subst, sym, List, ℕ}
use Rattle.std.proofs.lemmas.Bool.{cases_lt}
use Rattle.std.proofs.lemmas.Simd.{get_or-put_chunk_at, get_or-put_chunk_below, length-put_chunk}
use Rattle.rs_erase.specs.Spaced.{spaced_sum}
use Rattle.rs_erase.proofs.spaced.write_sums.Goals as goal

pub loop-run-preserved : goal.loop-run-preserved
loop-run-preserved c =
    let run = c.loop-run.run in
    let old = c.loop-run.sums in
    let row = c.run_sums.result in
    let new = c.write_lanes.new.bytes in
    let starts = c.args.starts.now in
    let is = c.write_lanes.ensures in
    let long : length old ≡ 208 = c.loop-run.invariant.long in
    let lr : length row ≡ 16 = search rules in
    let end = c.min-run-end.ensures in
    let few : run < 13 = omega arith in
    record {
      long = ap (λ (zs : List ℕ). length zs) is ∙ length-put_chunk (16 * run) old row ∙ long;
      done = λ r i lt li small. elim (cases_lt r run) [
        | inl before ↦
            ap (λ (zs : List ℕ). get_or zs (16 * r + i) 0) is
            ∙ get_or-put_chunk_below (16 * run) old row (16 * r + i) 0 (omega arith)
            ∙ c.loop-run.invariant.done r i before li small
        | inr here ↦
            let same : r ≡ run = omega arith in
            let small' : get_or starts run 0 < 207 = subst (λ (q : ℕ). get_or starts q 0 < 207) same small in
            ap (λ (q : ℕ). get_or new (16 * q + i) 0) same
            ∙ ap (λ (zs : List ℕ). get_or zs (16 * run + i) 0) is
            ∙ get_or-put_chunk_at (16 * run) old row i 0 (omega arith) (omega arith)
            ∙ c.run_sums.ensures small' i li
            ∙ ap (λ (q : ℕ). spaced_sum c.args.table.now c.args.symbols.now (207 - get_or starts q 0) i 48) (sym same)
      ];
    }

pub returns : goal.returns
returns c = λ run i used few li small.
    let end = c.min-run-end.ensures in
    let stop = c.loop-run-test.false in
    c.loop-run.invariant.done run i (omega (arith, end, stop, used, few)) li small
