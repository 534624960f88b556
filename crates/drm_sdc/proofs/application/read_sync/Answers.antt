use Rattle.std.proofs.Common.{◌≡◌, ℕ, Bool, List, drop, ◌∙◌}
use Rattle.std.proofs.lemmas.List.{take_rest}
use Rattle.drm_bits.specs.Bits.{front, bit}
use Rattle.drm_sdc.specs.declared.body.AppMode.TheVariants.{Sync}
use Rattle.drm_sdc.specs.declared.body.Body.TheVariants.{App}
use Rattle.drm_sdc.specs.Reading.{sync_from}
use Rattle.drm_sdc.proofs.application.read_sync.Goals as goal

one_by_one : (b0 b1 b2 : List Bool) (short stream spare : ℕ) (enhancement : Bool) (domain : ℕ) (load bytes : List ℕ)
    → b1 ≡ drop 3 b0 → b2 ≡ drop 1 b1 → spare ≡ front 3 b0 → enhancement ≡ bit b1 → domain ≡ front 3 b2 → load ≡ drop 1 bytes
    → App short stream (Sync spare) enhancement domain load ≡ sync_from short stream b0 bytes
one_by_one b0 b1 b2 short stream spare enhancement domain load bytes d1 d2 e1 e2 e3 e4 = cc

pub returns : goal.returns
returns c =
    one_by_one _ _ _ _ _ _ _ _ _ c.args.bytes.now
    c.take_u8.ensures.rest c.take_flag-enhancement.ensures.rest
    c.take_u8.ensures.number c.take_flag-enhancement.ensures.bit c.take_u8-domain.ensures.number
    (c.in_ok-bytes.ensures ∙ take_rest c.args.bytes.now 1)
