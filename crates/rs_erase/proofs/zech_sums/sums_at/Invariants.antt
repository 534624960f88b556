use Rattle.std.proofs.Common.{ℕ, ◌≡◌, ◌+◌, ◌<◌, ◌≤◌, drop, get_or, length}
use Rattle.rs_erase.specs.Zech.{runs_sum, zech_sum, AreRunsWithin}
use Rattle.rs_erase.specs.declared.zech_logarithms.TheConstants.{ZECH_LOGARITHMS}
use Rattle.rs_erase.proofs.zech_sums.sums_at.Given as goal

abbrev pub invariant-loop-place : goal.invariant-loop-place
invariant-loop-place l = record {
  starts_long : length l.starts ≡ 48;
  lens_long : length l.lens ≡ 48;
  few : l.used ≤ l.place-index;
  short : (r : ℕ) → r < l.used → get_or l.lens r 0 ≤ l.place-index;
  within : AreRunsWithin l.distance l.starts l.lens l.used;
  summed : (b : ℕ) → runs_sum ZECH_LOGARITHMS l.distance b l.starts l.lens l.used + zech_sum ZECH_LOGARITHMS b (drop l.place-index l.places)
      ≡ zech_sum ZECH_LOGARITHMS b l.places;
}
