-- In which order the services of a multiplex stand in the FAC, from frame to frame (ES 201 980, "Fast Access Channel").
use Rattle.std.specs.Prelude.{ℕ, zero, suc, ◌%◌, ◌==◌, if◌then◌else◌, List, ◌∷◌, [], ◌++◌, length, map, slice_get, Option}
use Rattle.std.specs.List.{flat_map, range_with_len}
use Rattle.drm_fac.specs.declared.order.Slot.{Slot}
use Rattle.drm_fac.specs.declared.order.Slot.TheVariants.{Audio, Data}

-- each of n audio services once, and each of n data services
abbrev pub each_audio : ℕ → List Slot
each_audio n = map Audio (range_with_len 0 n)

abbrev pub each_data : ℕ → List Slot
each_data n = map Data (range_with_len 0 n)

-- the audio services before a data service: each of them twice, and one alone four times
abbrev pub before_data : ℕ → List Slot
before_data n = if n == 1 then Audio 0 ∷ Audio 0 ∷ Audio 0 ∷ Audio 0 ∷ [] else each_audio n ++ each_audio n

-- the order of so many audio and data services, which is then repeated
abbrev pub order_of : ℕ → ℕ → List Slot
order_of audio zero = each_audio audio
order_of zero (suc n) = each_data (suc n)
order_of (suc a) (suc n) = flat_map (λ k. before_data (suc a) ++ Data k ∷ []) (range_with_len 0 (suc n))

-- the service at a phase
abbrev pub service_at : ℕ → ℕ → ℕ → Option Slot
service_at audio data_count phase = slice_get (order_of audio data_count) (phase % length (order_of audio data_count))
