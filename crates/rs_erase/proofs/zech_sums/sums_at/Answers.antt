use Rattle.std.proofs.Common.{◌≡◌, ◌+◌, ◌*◌, ◌<◌, ◌∙◌, ℕ, ap, ap₂, arith, get_or, length, refl, rules, slice_set, zero-add, List}
use Rattle.rs_erase.specs.Zech.{runs_sum, zech_sum}
use Rattle.rs_erase.specs.declared.zech_logarithms.TheConstants.{ZECH_LOGARITHMS}
use Rattle.rs_erase.proofs.ZechSums.{longer_run, longer_short, longer_within, no_runs, one_more_short, one_more_within, one_run_more, sum_from, sum_of_none, sum_small}
use Rattle.rs_erase.proofs.zech_sums.sums_at.Goals.{then-run-used, else-run-used}
use Rattle.rs_erase.proofs.zech_sums.sums_at.Goals as goal

pub loop-place-init : goal.loop-place-init
loop-place-init c = record {
  starts_long = refl;
  lens_long = refl;
  few = omega arith;
  short = λ r lt. absurd (omega arith);
  within = λ r lt. absurd (omega arith);
  summed = λ b.
      let s = zech_sum ZECH_LOGARITHMS b c.args.places.now in ap (λ (n : ℕ). n + s) (no_runs ZECH_LOGARITHMS c.args.distance b _ _) ∙ zero-add s;
}

pub returns-clause-sums : goal.returns-clause-sums
returns-clause-sums c = λ b lb.
    let es = c.args.places.now in
    let made = c.sums_of_runs.ensures b lb in
    let whole = c.loop-place.invariant.summed b in
    let none = sum_of_none c.loop-place.place-index es (omega arith) ZECH_LOGARITHMS b in
    omega (arith, made, whole, none)

pub returns-clause-bounded : goal.returns-clause-bounded
returns-clause-bounded c = λ b lb.
    let es = c.args.places.now in
    let made = c.sums_of_runs.ensures b lb in
    let whole = c.loop-place.invariant.summed b in
    let none = sum_of_none c.loop-place.place-index es (omega arith) ZECH_LOGARITHMS b in
    let small = sum_small es b lb c.requires.places.below in
    omega (arith, made, whole, none, small)

pub loop-place-preserved : goal.loop-place-preserved
loop-place-preserved c =
    let es = c.args.places.now in
    let d = c.args.distance in
    let i = c.loop-place.place-index in
    let lt : i < length es = c.loop-place-test.true in
    let place = get_or es i 0 in
    let low = c.requires.places.below i lt in
    let l = c.loop-place.invariant in
    let starts = c.loop-place.starts in
    let lens = c.loop-place.lens in
    let used = c.loop-place.used in
    let run = c.run_before-run.result in
    let enough = c.requires.enough in
    elim c.if-run-used.branch [
      | then-run-used w ↦
          let here : run < used = w.if-run-used.true in
          let ll : run < length lens = omega (arith, here, l.few, l.lens_long, lt, enough) in
          let is : get_or starts run 0 + d * get_or lens run 0 ≡ place = c.run_before-run.ensures here in
          let longer = slice_set lens run (get_or lens run 0 + 1) in
          record {
            starts_long = ap (λ (xs : List ℕ). length xs) w.starts-is ∙ l.starts_long;
            lens_long = ap (λ (xs : List ℕ). length xs) w.lens-is ∙ search rules;
            few = let u = w.used-is in omega (arith, u, l.few);
            short = λ r lr.
                let u = w.used-is in
                let small = longer_short lens used run i l.short here ll r (omega (arith, u, lr)) in
                let same : get_or c.if-run-used.lens r 0 ≡ get_or longer r 0 = ap (λ (xs : List ℕ). get_or xs r 0) w.lens-is in
                omega (arith, small, same);
            within = λ r lr.
                let u = w.used-is in
                let h = longer_within d starts lens used run place l.within here ll is low r (omega (arith, u, lr)) in
                let first : get_or c.if-run-used.starts r 0 ≡ get_or starts r 0 = ap (λ (xs : List ℕ). get_or xs r 0) w.starts-is in
                let far : d * get_or c.if-run-used.lens r 0 ≡ d * get_or longer r 0 = ap (λ (xs : List ℕ). d * get_or xs r 0) w.lens-is in
                (omega (arith, h.0, first), omega (arith, h.1, first, far));
            summed = λ b.
                let more = longer_run ZECH_LOGARITHMS d b starts lens used run place here ll is in
                let made : runs_sum ZECH_LOGARITHMS d b c.if-run-used.starts c.if-run-used.lens c.if-run-used.used ≡ runs_sum ZECH_LOGARITHMS d b starts longer used =
                ap₂ (λ (xs ys : List ℕ). runs_sum ZECH_LOGARITHMS d b xs ys c.if-run-used.used) w.starts-is w.lens-is
                ∙ ap (runs_sum ZECH_LOGARITHMS d b starts longer) w.used-is in
                let next = sum_from i es lt ZECH_LOGARITHMS b in
                let before = l.summed b in
                omega (arith, more, made, next, before);
          }
      | else-run-used w ↦
          let ls : used < length starts = omega (arith, l.few, l.starts_long, lt, enough) in
          let ll : used < length lens = omega (arith, l.few, l.lens_long, lt, enough) in
          let others = slice_set starts used place in
          let counts = slice_set lens used 1 in
          record {
            starts_long = ap (λ (xs : List ℕ). length xs) w.starts-is ∙ search rules;
            lens_long = ap (λ (xs : List ℕ). length xs) w.lens-is ∙ search rules;
            few = let u = w.used-is in omega (arith, u, l.few);
            short = λ r lr.
                let u = w.used-is in
                let small = one_more_short lens used i l.short ll r (omega (arith, u, lr)) in
                let same : get_or c.if-run-used.lens r 0 ≡ get_or counts r 0 = ap (λ (xs : List ℕ). get_or xs r 0) w.lens-is in
                omega (arith, small, same);
            within = λ r lr.
                let u = w.used-is in
                let h = one_more_within d starts lens used place l.within ls ll low r (omega (arith, u, lr)) in
                let first : get_or c.if-run-used.starts r 0 ≡ get_or others r 0 = ap (λ (xs : List ℕ). get_or xs r 0) w.starts-is in
                let far : d * get_or c.if-run-used.lens r 0 ≡ d * get_or counts r 0 = ap (λ (xs : List ℕ). d * get_or xs r 0) w.lens-is in
                (omega (arith, h.0, first), omega (arith, h.1, first, far));
            summed = λ b.
                let more = one_run_more ZECH_LOGARITHMS d b starts lens used place ls ll in
                let made : runs_sum ZECH_LOGARITHMS d b c.if-run-used.starts c.if-run-used.lens c.if-run-used.used ≡ runs_sum ZECH_LOGARITHMS d b others counts (used + 1) =
                ap₂ (λ (xs ys : List ℕ). runs_sum ZECH_LOGARITHMS d b xs ys c.if-run-used.used) w.starts-is w.lens-is
                ∙ ap (runs_sum ZECH_LOGARITHMS d b others counts) w.used-is in
                let next = sum_from i es lt ZECH_LOGARITHMS b in
                let before = l.summed b in
                omega (arith, more, made, next, before);
          }
    ]
