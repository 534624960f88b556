-- A check value beside the bytes that it is for.
use Rattle.std.specs.Prelude.{ℕ, ◌≡◌, ◌≢◌, List}
use Rattle.std.specs.Int.{w16, from_be_bytes}
use Rattle.drm_bits.specs.Crc.{IsCheckOf}
use Rattle.drm_bits.specs.declared.compared.WrongCheck.{WrongCheck}

-- these two bytes are another number than the check value of the bytes
pub record IsWrongCheck (w : WrongCheck) (bytes check : List ℕ) : Type 0 where
  pub stands : w.stands ≡ from_be_bytes w16 check
  pub computed : IsCheckOf bytes w.computed
  pub differ : w.stands ≢ w.computed
