use Rattle.std.proofs.Common.{ℕ, ◌<◌, ◌^◌, false, get_or}
use Rattle.drm_sdc.proofs.fits.channels_fit.Given as goal

abbrev pub invariant-loop-channel : goal.invariant-loop-channel
invariant-loop-channel l = (k : ℕ) → k < l.channel-index → (get_or l.channels k (record { first = false; number = 0 })).number < 2 ^ 15
