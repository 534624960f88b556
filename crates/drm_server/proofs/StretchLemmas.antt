-- Which frames of a schedule are sent.
use Rattle.std.proofs.Common.{◌≡◌, ◌+◌, ◌-◌, ◌<◌, ◌≤◌, ℕ, Option, None, Some, ap, arith}
use Rattle.drm_schedule.specs.declared.plan.Plan.{Plan}
use Rattle.drm_timeline.specs.Numbers.{frame_count}
use Rattle.drm_server.specs.declared.stretch.Stretch.{Stretch}
use Rattle.drm_server.specs.Stretch.{whole_schedule, first_in, end_before, frames_in}

end_within : (until : Option ℕ) (count : ℕ) → end_before until count ≤ count
end_within None count = omega arith
end_within (Some until) count = omega arith

-- each is one of the schedule's
pub within_schedule : (stretch : Stretch) (plan : Plan) (n : ℕ) → n < frames_in stretch plan → first_in stretch + n < frame_count plan
unfolding frames_in
within_schedule stretch plan n within = let few = end_within stretch.until (frame_count plan) in omega (arith, within, few)

-- as many of two schedules that have as many
pub as_many : (stretch : Stretch) (a b : Plan) → frame_count a ≡ frame_count b → frames_in stretch a ≡ frames_in stretch b
unfolding frames_in
as_many stretch a b same = ap (λ (count : ℕ). end_before stretch.until count - first_in stretch) same

-- all of them
pub all_frames : (plan : Plan) → frames_in whole_schedule plan ≡ frame_count plan
unfolding frames_in
all_frames plan = omega arith
