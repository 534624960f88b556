-- The FAC of each frame of a schedule (ES 201 980, "Fast Access Channel").
use Rattle.std.specs.Prelude.{ℕ, ◌-◌, ◌*◌, ◌/◌, ◌%◌, ◌==◌, not, Bool, true, false, if◌then◌else◌, List, length, filter, slice_get, option_map, Option}
use Rattle.drm_fac.specs.declared.channel.Channel.{Channel}
use Rattle.drm_fac.specs.declared.service.Service.{Service}
use Rattle.drm_fac.specs.declared.fac.Fac.{Fac}
use Rattle.drm_fac.specs.declared.order.Slot.{Slot}
use Rattle.drm_fac.specs.declared.order.Slot.TheVariants.{Audio, Data}
use Rattle.drm_fac.specs.Services.{code_of}
use Rattle.drm_fac.specs.Pattern as pattern
use Rattle.drm_schedule.specs.declared.config.Config.{Config}
use Rattle.drm_schedule.specs.declared.plan.Plan.{Plan}
use Rattle.plan_packing.specs.Packing.{chain}
use Rattle.drm_timeline.specs.Standing.{config_of, index_of}

-- whether a service is a data service, or is none
abbrev pub is_of_kind : Bool → Service → Bool
is_of_kind true s = s.is_data
is_of_kind false s = not s.is_data

-- the audio services and the data services, in the order of their lines
abbrev pub audio_services : Config → List Service
audio_services c = filter (is_of_kind false) c.services

abbrev pub data_services : Config → List Service
data_services c = filter (is_of_kind true) c.services

-- the code of the numbers of services
abbrev pub services_of : Config → Option ℕ
services_of c = code_of (length (audio_services c)) (length (data_services c))

abbrev pub service_in : Config → Slot → Option Service
service_in c (Audio k) = slice_get (audio_services c) k
service_in c (Data k) = slice_get (data_services c) k

-- the service whose parameters stand in the frame of this phase, the first one of the configuration having phase 0
abbrev pub service_of : Config → ℕ → Option Service
service_of c phase = chain (pattern.service_at (length (audio_services c)) (length (data_services c)) phase) (service_in c)

-- first frame of a super frame, with no valid AFS index; intermediate; last
abbrev pub identity_of : ℕ → ℕ
identity_of position = if position == 0 then 3 else position

-- what the frame at this position of its super frame says of the channel
abbrev pub channel_of : Config → ℕ → ℕ → ℕ → Channel
channel_of c services index position =
    record {
      enhancement = false;
      identity = identity_of position;
      occupancy = c.occupancy;
      short_depth = c.short_depth;
      msc = c.msc;
      qam4 = c.qam4;
      services = services;
      index = index;
      last = 0;
    }

-- the FAC of frame t of a configuration, under this index
abbrev pub fac_under : Config → ℕ → ℕ → Option Fac
fac_under c index t =
    chain (services_of c) (λ services. option_map (λ service. record { channel = channel_of c services index (t % 3); service = service }) (service_of c (t - 3 * c.start)))

-- the FAC of frame t
abbrev pub fac_of : Plan → ℕ → Option Fac
fac_of plan t = chain (config_of plan (t / 3)) (λ c. fac_under c (index_of plan (t / 3)) t)
