-- How long the packet of a frame is, by its configuration.
use Rattle.std.proofs.Common.{ℕ, ◌≡◌, ◌≤◌, ◌/◌, ◌%◌, ◌==◌, Bool, true, false, Option, Some, unwrap_or, option_map, ap, arith}
use Rattle.drm_schedule.specs.declared.config.Config.{Config}
use Rattle.drm_schedule.specs.declared.plan.Plan.{Plan}
use Rattle.drm_schedule.specs.Sizes.{packet_len}
use Rattle.drm_timeline.specs.Standing.{config_of}
use Rattle.drm_timeline.specs.Numbers.{packet_size}

pub size_is : (plan : Plan) (t : ℕ) (c : Config) → config_of plan (t / 3) ≡ Some c → packet_size plan t ≡ packet_len c (t % 3 == 0)
unfolding packet_size
size_is plan t c holds = ap (λ (o : Option Config). unwrap_or (option_map (λ (x : Config). packet_len x (t % 3 == 0)) o) 0) holds

pub some_bytes : (c : Config) (first : Bool) → 1 ≤ packet_len c first
some_bytes c first = omega arith

-- that of the first frame of a super frame is the longest
pub first_most : (c : Config) (first : Bool) → packet_len c first ≤ packet_len c true
first_most c true = omega arith
first_most c false = omega arith
