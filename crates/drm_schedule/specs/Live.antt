-- Which streams take their bytes from input.
use Rattle.std.specs.Prelude.{ℕ, Bool, false, ◌||◌, replicate, slice_index_or}
use Rattle.drm_schedule.specs.declared.live.Live.{Live}

-- stream k does
abbrev pub is_live : Live → ℕ → Bool
is_live live k = slice_index_or live.streams k false

-- some stream does
abbrev pub is_any : Live → Bool
is_any live = is_live live 0 || is_live live 1 || is_live live 2 || is_live live 3

-- none does
abbrev pub none : Live
none = record { streams = replicate 4 false }
