use Rattle.std.proofs.Common.{◌≡◌, ℕ, List, Bool, drop, arith}
use Rattle.std.proofs.lemmas.Grind.{common_steps}
use Rattle.drm_sdc.specs.declared.body.Body.TheVariants.{Audio}
use Rattle.drm_bits.specs.Bits.{front, bit}
use Rattle.drm_sdc.specs.Reading.{audio_from}
use Rattle.drm_sdc.proofs.audio.read_audio.Goals as goal

one_by_one : (b0 b1 b2 b3 b4 b5 b6 b7 b8 b9 : List Bool) (short stream coding : ℕ) (sbr : Bool) (mode rate : ℕ) (text enhancement : Bool) (coder : ℕ) (spare : Bool) (config bytes : List ℕ)
    → b1 ≡ drop 2 b0 → b2 ≡ drop 2 b1 → b3 ≡ drop 2 b2 → b4 ≡ drop 1 b3 → b5 ≡ drop 2 b4 → b6 ≡ drop 3 b5 → b7 ≡ drop 1 b6 → b8 ≡ drop 1 b7 → b9 ≡ drop 5 b8
    → short ≡ front 2 b0 → stream ≡ front 2 b1 → coding ≡ front 2 b2 → sbr ≡ bit b3 → mode ≡ front 2 b4 → rate ≡ front 3 b5 → text ≡ bit b6 → enhancement ≡ bit b7 → coder ≡ front 5 b8 → spare ≡ bit b9 → config ≡ drop 2 bytes
    → Audio short stream coding sbr mode rate text enhancement coder spare config ≡ audio_from b0 bytes
one_by_one b0 b1 b2 b3 b4 b5 b6 b7 b8 b9 short stream coding sbr mode rate text enhancement coder spare config bytes d1 d2 d3 d4 d5 d6 d7 d8 d9 e0 e1 e2 e3 e4 e5 e6 e7 e8 e9 e10 = cc

pub returns : goal.returns
returns c =
    let config : c.in_ok-config.config ≡ drop 2 c.args.bytes.now = grind (arith, common_steps, c.in_ok-config.ensures) in
    one_by_one _ _ _ _ _ _ _ _ _ _ _ _ _ _ _ _ _ _ _ _ c.in_ok-config.config c.args.bytes.now
    c.take_u8.ensures.rest c.take_u8-2.ensures.rest c.take_u8-3.ensures.rest c.take_flag.ensures.rest c.take_u8-4.ensures.rest c.take_u8-5.ensures.rest c.take_flag-2.ensures.rest c.take_flag-3.ensures.rest c.take_u8-6.ensures.rest
    c.take_u8.ensures.number c.take_u8-2.ensures.number c.take_u8-3.ensures.number c.take_flag.ensures.bit c.take_u8-4.ensures.number c.take_u8-5.ensures.number c.take_flag-2.ensures.bit c.take_flag-3.ensures.bit c.take_u8-6.ensures.number c.take_flag-4.ensures.bit config
