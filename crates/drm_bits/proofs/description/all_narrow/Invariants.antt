use Rattle.std.proofs.Common.{ℕ, ◌<◌, ◌^◌, get_or}
use Rattle.drm_bits.proofs.description.all_narrow.Given as goal

abbrev pub invariant-loop-part : goal.invariant-loop-part
invariant-loop-part l = (k : ℕ) → k < l.part-index → ((get_or l.parts k (record { a = 0; b = 0 })).a < 2 ^ 12) × ((get_or l.parts k (record { a = 0; b = 0 })).b < 2 ^ 12)
