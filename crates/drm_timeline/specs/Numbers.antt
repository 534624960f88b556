-- The numbers of a schedule's frames: how many there are, and of each the bytes and the sequence number of its packet.
use Rattle.std.specs.Prelude.{ℕ, ◌+◌, ◌*◌, ◌/◌, ◌%◌, ◌^◌, ◌==◌, option_map, unwrap_or}
use Rattle.drm_schedule.specs.declared.plan.Plan.{Plan}
use Rattle.drm_schedule.specs.Sizes.{packet_len}
use Rattle.drm_timeline.specs.Standing.{config_of}

-- a super frame has three frames
abbrev pub frame_count : Plan → ℕ
frame_count plan = 3 * plan.length

-- the bytes of the AF packet of frame t
unfoldable pub packet_size : Plan → ℕ → ℕ
packet_size plan t = unwrap_or (option_map (λ c. packet_len c (t % 3 == 0)) (config_of plan (t / 3))) 0

-- the sequence number of the packet of frame t, and of its fragments
abbrev pub sequence_number : Plan → ℕ → ℕ
sequence_number plan t = (plan.seq + t) % 2 ^ 16
