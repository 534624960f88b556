use Rattle.std.proofs.Common.{ℕ, ◌≡◌, ◌<◌, get_or}
use Rattle.gf_field.specs.Field.{times}
use Rattle.rs_erase.specs.Equations.{locators_of}
use Rattle.rs_erase.specs.Prepared.{scale_of}
use Rattle.rs_erase.proofs.zech_sums.write_weights_by.Given as goal

abbrev pub invariant-loop-j : goal.invariant-loop-j
invariant-loop-j l = (k : ℕ) → k < l.j → times (get_or l.weights k 0) (scale_of (locators_of l.places) k) ≡ 1
