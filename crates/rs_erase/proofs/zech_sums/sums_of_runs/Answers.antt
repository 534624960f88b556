use Rattle.std.proofs.Common.{◌≡◌, ◌+◌, ◌-◌, ◌*◌, ◌∙◌, ℕ, ap, ap₂, arith, get_or, refl, sym}
use Rattle.rs_erase.specs.Zech.{run_sum}
use Rattle.rs_erase.specs.declared.zech_logarithms.TheConstants.{ZECH_LOGARITHMS}
use Rattle.rs_erase.proofs.ZechSums.{next_run, no_runs, run_between}
use Rattle.rs_erase.proofs.OtherPlaces.{zero_at}
use Rattle.rs_erase.proofs.zech_sums.sums_of_runs.Goals as goal

pub loop-run-init : goal.loop-run-init
loop-run-init c = record {
  long = refl;
  summed = λ b lt. zero_at 256 b ∙ sym (no_runs ZECH_LOGARITHMS c.args.distance b c.args.starts.now c.args.lens.now);
  small = λ b lt. let z = zero_at 256 b in omega (arith, z);
}

pub add_between-requires-clause-order : goal.add_between-requires-clause-order
add_between-requires-clause-order c = λ b lb.
    let run = c.loop-run.run in
    let w = c.requires.within run c.loop-run-test.true in
    let d = c.args.distance in
    let start : c.from-high.result ≡ get_or c.args.starts.now run 0 = c.from-high.ensures in
    let len : d * c.from.result ≡ d * get_or c.args.lens.now run 0 = ap (λ (m : ℕ). d * m) c.from.ensures in
    let h = run_between c.args.running.now d c.requires.running c.requires.distance c.requires.within_limit c.from-high.result c.from.result b
    (omega (arith, start, w.0)) (omega (arith, start, len, w.1)) lb in
    omega (arith, h)

pub loop-run-preserved : goal.loop-run-preserved
loop-run-preserved c =
    let run = c.loop-run.run in
    let w = c.requires.within run c.loop-run-test.true in
    let d = c.args.distance in
    let s = c.from-high.result in
    let n = c.from.result in
    let start : s ≡ get_or c.args.starts.now run 0 = c.from-high.ensures in
    let len : d * n ≡ d * get_or c.args.lens.now run 0 = ap (λ (m : ℕ). d * m) c.from.ensures in
    record {
      long = c.add_between.array_long;
      summed = λ b lb.
          let h = run_between c.args.running.now d c.requires.running c.requires.distance c.requires.within_limit s n b
          (omega (arith, start, w.0)) (omega (arith, start, len, w.1)) (omega arith) in
          let new = c.add_between.ensures b (omega arith) in
          let old = c.loop-run.invariant.summed b lb in
          let next = next_run ZECH_LOGARITHMS d b c.args.starts.now c.args.lens.now run in
          let same : run_sum ZECH_LOGARITHMS d b s n ≡ run_sum ZECH_LOGARITHMS d b (get_or c.args.starts.now run 0) (get_or c.args.lens.now run 0) =
          ap₂ (run_sum ZECH_LOGARITHMS d b) c.from-high.ensures c.from.ensures in
          omega (arith, h, new, old, next, same);
      small = λ b lb.
          let new = c.add_between.ensures b lb in
          let old = c.loop-run.invariant.small b lb in
          let most = c.requires.running.small (510 - s + b) (omega arith) in
          omega (arith, new, old, most);
    }
