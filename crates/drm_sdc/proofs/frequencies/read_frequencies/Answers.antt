use Rattle.std.proofs.Common.{◌≡◌, ℕ, ◌+◌, ◌-◌, ◌/◌, Bool, List, length, drop, Option}
use Rattle.std.specs.Int.{from_bool}
use Rattle.drm_bits.specs.Bits.{bit}
use Rattle.drm_sdc.specs.declared.channels.Channel15.{Channel15}
use Rattle.drm_sdc.specs.declared.body.Body.TheVariants.{Freq}
use Rattle.drm_sdc.specs.Reading.{freq_from, optional_from, behind, channels_from}
use Rattle.drm_sdc.proofs.frequencies.read_frequencies.Goals as goal

one_by_one : (b0 b1 b2 b3 b4 b5 b6 : List Bool) (sync layer has_restriction has_region : Bool) (restriction region : Option ℕ) (first second : ℕ) (list : List Channel15) (bytes : List ℕ)
    → b1 ≡ drop 1 b0 → b2 ≡ drop 1 b1 → b3 ≡ drop 1 b2 → b4 ≡ drop 1 b3 → b5 ≡ behind has_restriction b4 → b6 ≡ behind has_region b5
    → sync ≡ bit b0 → layer ≡ bit b1 → has_restriction ≡ bit b2 → has_region ≡ bit b3 → restriction ≡ optional_from has_restriction b4 → region ≡ optional_from has_region b5
    → first ≡ from_bool has_restriction → second ≡ from_bool has_region → list ≡ channels_from ((length bytes - (first + second)) / 2) b6
    → Freq sync layer restriction region list ≡ freq_from b0 bytes
one_by_one b0 b1 b2 b3 b4 b5 b6 sync layer has_restriction has_region restriction region first second list bytes d1 d2 d3 d4 d5 d6 e1 e2 e3 e4 e5 e6 e7 e8 e9 = cc

pub returns : goal.returns
returns c =
    one_by_one _ _ _ _ _ _ _ _ _ _ _ _ _ c.from.result c.from-2.result _ c.args.bytes.now
    c.take_flag-sync.ensures.rest c.take_flag-layer.ensures.rest c.take_flag-has_restriction.ensures.rest c.take_flag-has_region.ensures.rest c.take_optional-restriction.ensures.rest c.take_optional-region.ensures.rest
    c.take_flag-sync.ensures.bit c.take_flag-layer.ensures.bit c.take_flag-has_restriction.ensures.bit c.take_flag-has_region.ensures.bit c.take_optional-restriction.ensures.number c.take_optional-region.ensures.number
    c.from.ensures c.from-2.ensures c.in_ok-list.ensures
