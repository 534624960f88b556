use Rattle.std.proofs.Common.{◌≡◌, ℕ, ◌<◌}
use Rattle.mdi_items.specs.Names.{name_at}
use Rattle.mdi_items.proofs.names.place_of.Given as goal

abbrev pub invariant-loop-place : goal.invariant-loop-place
invariant-loop-place l = (k : ℕ) → k < l.place → name_at k ≡ l.name → ⊥
