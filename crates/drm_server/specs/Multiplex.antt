-- The multiplex frame of each frame of a schedule (ES 201 980): the parts A of all its streams, then their parts B.
use Rattle.std.specs.Prelude.{ℕ, ◌-◌, ◌*◌, ◌/◌, List, ◌++◌, take, drop, option_map, Option}
use Rattle.std.specs.List.{flat_map}
use Rattle.drm_schedule.specs.declared.plan.Plan.{Plan}
use Rattle.drm_schedule.specs.declared.stream.Stream.{Stream}
use Rattle.drm_timeline.specs.Standing.{config_of}
use Rattle.drm_schedule.specs.Contents.{stream_bytes}

-- part A of a stream's bytes in the frame with this number of its configuration, and part B behind it
abbrev pub part_a : ℕ → Stream → List ℕ
part_a frame s = take s.a (stream_bytes frame s)

abbrev pub part_b : ℕ → Stream → List ℕ
part_b frame s = drop s.a (stream_bytes frame s)

-- the parts A of the streams in their order, and then the parts B
abbrev pub multiplex_of : ℕ → List Stream → List ℕ
multiplex_of frame streams = flat_map (part_a frame) streams ++ flat_map (part_b frame) streams

-- the multiplex frame of frame t
abbrev pub multiplex_at : Plan → ℕ → Option (List ℕ)
multiplex_at plan t = option_map (λ c. multiplex_of (t - 3 * c.start) c.streams) (config_of plan (t / 3))
