-- The block of a frame stands where the frame says.
use Rattle.std.proofs.Common.{◌≡◌, ℕ, ◌*◌, ◌≤◌, List, take, drop, Option, None, Some, sym, ap, subst, ◌∙◌, arith}
use Rattle.std.proofs.lemmas.List.{take-take}
use Rattle.drm_bits.specs.Bits.{bits_of}
use Rattle.drm_bits.proofs.ByteBits.{bits_of-take}
use Rattle.drm_sdc.specs.declared.block.Block.{Block}
use Rattle.drm_sdc.specs.Block.{IsBlock}
use Rattle.drm_sdc.proofs.BlockLaws.{one_info}
use Rattle.dcp_tag.specs.Tag.{TagItem, bytes_for}
use Rattle.mdi_items.specs.declared.view.SdcSpan.{SdcSpan}
use Rattle.mdi_items.specs.Items.{known_of}
use Rattle.mdi_items.specs.Frame.{Frame, block_bits, IsBlockSpan}
use Rattle.mdi_items.specs.Mdi.{IsMdi}
use Rattle.report_dump.specs.PacketContent.{bits_at, IsBlockOf}
use Rattle.report_dump.specs.Block.{IsSpanOfBlock}

-- the first bits of bytes are those of as many bytes as they need
first_bits : (n : ℕ) (bytes : List ℕ) → take n (bits_of (take (bytes_for n) bytes)) ≡ take n (bits_of bytes)
first_bits n bytes =
    let enough : n ≤ 8 * bytes_for n = omega arith in
    ap (take n) (bits_of-take (bytes_for n) bytes) ∙ take-take n (8 * bytes_for n) (bits_of bytes) enough

span_of_block : (payload : List ℕ) (items : List TagItem) (span : SdcSpan) → IsBlockSpan payload (known_of items) (Some span) → IsSpanOfBlock payload span
span_of_block payload items span (found, block, at, some, is, is_block) =
    let same : block_bits payload found ≡ bits_at payload span = first_bits found.bits (drop found.at payload) ∙ ap (bits_at payload) (sym is_block) in
    let stands : IsBlock block (bits_at payload span) = subst (IsBlock block) same is in
    (block, stands, ap (λ (s : SdcSpan). s.info) is_block ∙ one_info block block (block_bits payload found) (bits_at payload span) same is stands)

pub span_there : (frame : Frame) (payload : List ℕ) (span : SdcSpan) → IsMdi frame payload → frame.sdc ≡ Some span → IsSpanOfBlock payload span
span_there frame payload span mdi is = span_of_block payload mdi.items span (subst (IsBlockSpan payload (known_of mdi.items)) is mdi.says.sdc)

block_of : (payload : List ℕ) (items : List TagItem) (sdc : Option SdcSpan) → IsBlockSpan payload (known_of items) sdc → (block : Option Block) × IsBlockOf payload sdc block
block_of payload items None is = (None, tt)
block_of payload items (Some span) is = let is_block = span_of_block payload items span is in (Some is_block.0, is_block.1)

-- a frame has its block
pub block_there : (frame : Frame) (payload : List ℕ) → IsMdi frame payload → (block : Option Block) × IsBlockOf payload frame.sdc block
block_there frame payload mdi = block_of payload mdi.items frame.sdc mdi.says.sdc
