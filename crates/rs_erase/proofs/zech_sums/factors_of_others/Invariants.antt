use Rattle.std.proofs.Common.{ℕ, ◌≡◌, ◌+◌, ◌-◌, ◌*◌, ◌<◌, get_or, length}
use Rattle.gf_field.specs.Field.{power}
use Rattle.rs_erase.proofs.zech_sums.factors_of_others.Given as goal

abbrev pub invariant-loop-p : goal.invariant-loop-p
invariant-loop-p l = record {
  long : length l.factors ≡ 48;
  done : (q : ℕ) → q < l.p → get_or l.factors q 0 ≡ power (l.count * (47 - q) + get_or l.sums (207 + q) 0);
}
