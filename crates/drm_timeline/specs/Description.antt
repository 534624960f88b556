-- What the blocks of a schedule tell of a configuration as such (ES 201 980, "Service Description Channel").
use Rattle.std.specs.Prelude.{ℕ, ◌+◌, ◌*◌, ◌/◌, ◌%◌, false, List, [], ◌∷◌, length, map, slice_get, option_map, Option, None, Some}
use Rattle.drm_bits.specs.declared.description.MuxDesc.{MuxDesc}
use Rattle.drm_bits.specs.declared.description.Part.{Part}
use Rattle.drm_sdc.specs.declared.body.Body.{Body}
use Rattle.drm_sdc.specs.declared.body.Body.TheVariants.{Time, Next}
use Rattle.drm_schedule.specs.declared.config.Clock.{Clock}
use Rattle.drm_schedule.specs.declared.config.Config.{Config}
use Rattle.drm_fac.specs.Mode.{mode_code}
use Rattle.drm_schedule.specs.declared.stream.Stream.{Stream}
use Rattle.drm_timeline.specs.FastAccess.{services_of}

abbrev pub part_of : Option Stream → Part
part_of None = record { a = 0; b = 0 }
part_of (Some s) = record { a = s.a; b = s.b }

-- the parts of the streams, and zeros up to four
abbrev pub parts_of : List Stream → List Part
parts_of streams = map (λ k. part_of (slice_get streams k)) (0 ∷ 1 ∷ 2 ∷ 3 ∷ [])

-- the multiplex description
abbrev pub description_of : Config → MuxDesc
description_of c = record { prot_a = c.prot_a; prot_b = c.prot_b; count = length c.streams; parts = parts_of c.streams }

-- the channel parameters of a configuration, as those before it announce them
abbrev pub parameters_of : Config → Option Body
parameters_of c = option_map (λ services. Next false (mode_code c.mode) c.occupancy c.short_depth c.msc c.qam4 services 0) (services_of c)

-- a day has so many minutes
abbrev pub day : ℕ
day = 24 * 60

-- the minutes of a clock since midnight, so many minutes later
abbrev pub minutes_of : Clock → ℕ → ℕ
minutes_of clock later = 60 * clock.hours + clock.minutes + later

-- the moment of a clock, so many minutes later
abbrev pub moment_of : Clock → ℕ → Body
moment_of clock later = let n = minutes_of clock later in Time (clock.mjd + n / day) (n / 60 % 24) (n % 60) None
