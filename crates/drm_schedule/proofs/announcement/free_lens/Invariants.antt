use Rattle.std.proofs.Common.{◌≡◌, length, take, map}
use Rattle.std.specs.List.{range_with_len}
use Rattle.drm_schedule.specs.Sizes.{free_bytes}
use Rattle.drm_schedule.proofs.announcement.free_lens.Given as goal

-- what the super frames before this one have free
abbrev pub invariant-loop-i : goal.invariant-loop-i
invariant-loop-i l = (take l.i l.free ≡ map (free_bytes l.before) (range_with_len l.first l.i)) × (length l.free ≡ 7)
