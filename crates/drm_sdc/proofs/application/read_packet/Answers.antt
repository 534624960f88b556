use Rattle.std.proofs.Common.{◌≡◌, ℕ, Bool, List, drop, ◌∙◌}
use Rattle.std.proofs.lemmas.List.{take_rest}
use Rattle.drm_bits.specs.Bits.{front, bit}
use Rattle.drm_sdc.specs.declared.body.AppMode.TheVariants.{Packet}
use Rattle.drm_sdc.specs.declared.body.Body.TheVariants.{App}
use Rattle.drm_sdc.specs.Reading.{packet_from}
use Rattle.drm_sdc.proofs.application.read_packet.Goals as goal

one_by_one : (b0 b1 b2 b3 b4 : List Bool) (short stream : ℕ) (unit : Bool) (pid : ℕ) (enhancement : Bool) (domain length : ℕ) (load bytes : List ℕ)
    → b1 ≡ drop 1 b0 → b2 ≡ drop 2 b1 → b3 ≡ drop 1 b2 → b4 ≡ drop 3 b3
    → unit ≡ bit b0 → pid ≡ front 2 b1 → enhancement ≡ bit b2 → domain ≡ front 3 b3 → length ≡ front 8 b4 → load ≡ drop 2 bytes
    → App short stream (Packet unit pid length) enhancement domain load ≡ packet_from short stream b0 bytes
one_by_one b0 b1 b2 b3 b4 short stream unit pid enhancement domain length load bytes d1 d2 d3 d4 e1 e2 e3 e4 e5 e6 = cc

pub returns : goal.returns
returns c =
    one_by_one _ _ _ _ _ _ _ _ _ _ _ _ _ c.args.bytes.now
    c.take_flag-unit.ensures.rest c.take_u8-pid.ensures.rest c.take_flag-enhancement.ensures.rest c.take_u8-domain.ensures.rest
    c.take_flag-unit.ensures.bit c.take_u8-pid.ensures.number c.take_flag-enhancement.ensures.bit c.take_u8-domain.ensures.number c.take_u8-length.ensures.number
    (c.in_ok-bytes.ensures ∙ take_rest c.args.bytes.now 2)
