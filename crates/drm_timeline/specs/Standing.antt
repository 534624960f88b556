-- Which configuration holds in a super frame, and which one is announced in it (ES 201 980, "Reconfiguration").
use Rattle.std.specs.Prelude.{ℕ, ◌-◌, ◌&&◌, nat_le, nat_lt, Bool, filter, Option, Some, None}
use Rattle.std.specs.List.{find, last_or}
use Rattle.drm_schedule.specs.declared.config.Config.{Config}
use Rattle.drm_schedule.specs.declared.plan.Plan.{Plan}
use Rattle.drm_schedule.specs.Announcement.{countdown_start}

abbrev pub has_started : ℕ → Config → Bool
has_started sf c = nat_le c.start sf

-- the configuration of a super frame: the last one whose start is at most this
abbrev pub config_of : Plan → ℕ → Option Config
config_of plan sf = last_or None (filter (has_started sf) plan.configs)

-- the super frame is one of the countdown to this configuration
abbrev pub is_counting : ℕ → Config → Bool
is_counting sf c = nat_le (countdown_start c) sf && nat_lt sf c.start

-- the configuration that is announced in a super frame
abbrev pub announced_in : Plan → ℕ → Option Config
announced_in plan sf = find (is_counting sf) plan.configs

-- The reconfiguration index: how many super frames, this one counted, come before what is announced; 0 where nothing is.
abbrev pub frames_before : ℕ → Option Config → ℕ
frames_before sf None = 0
frames_before sf (Some c) = c.start - sf

abbrev pub index_of : Plan → ℕ → ℕ
index_of plan sf = frames_before sf (announced_in plan sf)
