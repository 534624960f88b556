-- The line of a schedule's frame in a report, of what the schedule says of that frame alone.
use Rattle.std.specs.Prelude.{ℕ, ◌≡◌, List, [], ◌∷◌, take, codes, decimal, Option, None, Some}
use Rattle.std.specs.List.{concat}
use Rattle.hex.specs.Hex.{encode_lower}
use Rattle.drm_bits.specs.Bits.{bits_of}
use Rattle.drm_fac.specs.Fac.{IsFac}
use Rattle.drm_fac.specs.Mode.{mode_letter}
use Rattle.drm_schedule.specs.declared.plan.Plan.{Plan}
use Rattle.mdi_items.specs.RoundTrip.{BlockBytes, Parts}
use Rattle.drm_server.specs.Frames.{IsFrameAt}
use Rattle.drm_server.specs.Multiplex.{multiplex_at}
use Rattle.report_text.specs.HexBits.{hex_of_bits}
use Rattle.report_text.specs.FrameLine.{description_text, bytes_text}

-- the bits of the block; those of a schedule have no zero bits in front
abbrev pub block_digits : Option BlockBytes → List ℕ
block_digits None = codes "-"
block_digits (Some block) = hex_of_bits (take block.bits (bits_of block.value))

-- the line of number q of a frame of these parts, with the bytes of its FAC and its multiplex frame
abbrev pub line_of : ℕ → Parts → List ℕ → List ℕ → List ℕ
line_of q parts fac multiplex =
    concat (
    codes "frame " ∷ decimal q ∷ codes " dlfc " ∷ decimal parts.count ∷ codes " mode " ∷ mode_letter parts.mode
    ∷ codes " fac " ∷ encode_lower fac ∷ codes " sdc " ∷ block_digits parts.block
    ∷ codes " mux " ∷ description_text parts.mux ∷ codes " msc " ∷ bytes_text multiplex ∷ codes "\n" ∷ [])

-- The line is that of frame t of the schedule, under the number q.
pub record IsFrameLine (plan : Plan) (t q : ℕ) (line : List ℕ) : Type 0 where
  pub parts : Parts
  pub frame : IsFrameAt plan t parts
  pub fac : List ℕ
  pub is_fac : IsFac parts.fac fac
  pub multiplex : List ℕ
  pub is_multiplex : multiplex_at plan t ≡ Some multiplex
  pub line_is : line ≡ line_of q parts fac multiplex
