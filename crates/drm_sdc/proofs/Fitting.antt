-- Lists of numbers that fit, element by element.
use Rattle.std.proofs.Common.{ℕ, zero, suc, ◌<◌, ◌^◌, Bool, true, false, List, [], ◌∷◌, length, get_or, arith}
use Rattle.std.specs.Int.{from_bool}
use Rattle.drm_bits.specs.Fields.{AllFit}
use Rattle.drm_sdc.specs.declared.channels.Channel15.{Channel15}
use Rattle.drm_sdc.specs.Bodies.{channel_fields, octets}
use Rattle.drm_sdc.proofs.FieldLaws.{AreBytes}

pub flag_fits : (b : Bool) → from_bool b < 2 ^ 1
flag_fits true = omega arith
flag_fits false = omega arith

pub octets_fit : (bytes : List ℕ) → AreBytes bytes → AllFit (octets bytes)
octets_fit [] small = tt
octets_fit (b ∷ bytes) small = (small 0, octets_fit bytes (λ i. small (suc i)))

pub channels_fit : (cs : List Channel15) → ((k : ℕ) → k < length cs → (get_or cs k (record { first = false; number = 0 })).number < 2 ^ 15) → AllFit (channel_fields cs)
channels_fit [] each = tt
channels_fit (c ∷ cs) each = (flag_fits c.first, (each 0 (omega arith), channels_fit cs (λ k within. each (suc k) (omega arith))))

pub channel_fits : (cs : List Channel15) (k : ℕ) (d : Channel15) → k < length cs → AllFit (channel_fields cs) → (get_or cs k d).number < 2 ^ 15
channel_fits [] k d within fit = absurd (omega (arith, within))
channel_fits (c ∷ cs) zero d within fit = fit.1.0
channel_fits (c ∷ cs) (suc k) d within fit = channel_fits cs k d (omega (arith, within)) fit.1.1
