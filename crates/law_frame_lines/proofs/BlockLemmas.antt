-- The bits of a block in a payload are those of the block that was written.
use Rattle.std.proofs.Common.{◌≡◌, ◌+◌, ◌*◌, ◌%◌, ◌≤◌, ◌==◌, ℕ, Bool, true, false, if◌then◌else◌, List, length, take, drop, Option, None, Some, refl, sym, ap, subst, ◌∙◌, arith}
use Rattle.std.proofs.lemmas.List.{take-take, length-take-le}
use Rattle.std.proofs.lemmas.Bool.Decides.{nat_tests}
use Rattle.drm_bits.specs.Bits.{bits_of}
use Rattle.drm_bits.proofs.ByteBits.{bits_of-take}
use Rattle.dcp_tag.specs.Tag.{bytes_for}
use Rattle.drm_schedule.specs.declared.plan.Plan.{Plan}
use Rattle.mdi_items.specs.declared.view.SdcSpan.{SdcSpan}
use Rattle.mdi_items.specs.RoundTrip.{BlockBytes, IsBlockOf}
use Rattle.report_text.specs.HexBits.{hex_of_bits}
use Rattle.report_text.specs.FrameLine.{front_bits, block_text}
use Rattle.drm_server.specs.Frames.{HasBlockWhere}
use Rattle.law_frame_lines.specs.Line.{block_digits}

-- the first bits of bytes are those of as many bytes as they need
first_bits : (n : ℕ) (bytes : List ℕ) → take n (bits_of (take (bytes_for n) bytes)) ≡ take n (bits_of bytes)
first_bits n bytes =
    let enough : n ≤ 8 * bytes_for n = omega arith in
    ap (take n) (bits_of-take (bytes_for n) bytes) ∙ take-take n (8 * bytes_for n) (bits_of bytes) enough

-- a block that isn't of whole bytes has nothing in front
no_front : (n room : ℕ) → n ≡ 8 * room + 20 → front_bits n ≡ 0
no_front n room is = by (n % 8 == 0) refl
  where
    by : (b : Bool) → (n % 8 == 0) ≡ b → ◌≡◌ {A = ℕ} (if b then 4 else 0) 0
    by true whole = absurd (grind (arith, nat_tests))
    by false other = refl

-- The block, where there is one, has the length of a first form.
HasFirstForm : ℕ → Option BlockBytes → Type 0
HasFirstForm room None = Unit {0}
HasFirstForm room (Some b) = b.bits ≡ 8 * room + 20

has_first_form : (first : Bool) (plan : Plan) (sf room : ℕ) (o : Option BlockBytes) → HasBlockWhere first plan sf room o → HasFirstForm room o
unfolding HasFirstForm
has_first_form true plan sf room o (b, is, at) = subst (HasFirstForm room) (sym is) at.bits
has_first_form false plan sf room o is = subst (HasFirstForm room) (sym is) tt

read_bits : (payload : List ℕ) (room : ℕ) (o : Option BlockBytes) (read : Option SdcSpan) → HasFirstForm room o → IsBlockOf payload o read → block_text payload read ≡ block_digits o
unfolding HasFirstForm
read_bits payload room None None form is = refl
read_bits payload room None (Some span) form is = absurd is
read_bits payload room (Some b) None form is = absurd is
read_bits payload room (Some b) (Some span) form (bits, value) =
    let none : front_bits span.bits ≡ 0 = no_front span.bits room (bits ∙ form) in
    let whole : take span.bits (bits_of (drop span.at payload)) ≡ take b.bits (bits_of b.value) =
    sym (first_bits span.bits (drop span.at payload)) ∙ (ap (λ (l : List ℕ). take span.bits (bits_of l)) value ∙ ap (λ (n : ℕ). take n (bits_of b.value)) bits) in
    ap (λ (n : ℕ). hex_of_bits (drop n (take span.bits (bits_of (drop span.at payload))))) none ∙ ap hex_of_bits whole

-- what is printed of the block that is read is the digits of the schedule's
pub block_read : (first : Bool) (plan : Plan) (sf room : ℕ) (payload : List ℕ) (o : Option BlockBytes) (read : Option SdcSpan) → HasBlockWhere first plan sf room o → IsBlockOf payload o read → block_text payload read ≡ block_digits o
block_read first plan sf room payload o read has is = read_bits payload room o read (has_first_form first plan sf room o has) is
