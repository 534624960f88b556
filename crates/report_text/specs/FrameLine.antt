-- The line of a logical frame.
use Rattle.std.specs.Prelude.{ℕ, ◌%◌, ◌==◌, Bool, List, [], ◌∷◌, take, drop, codes, decimal, Option, None, Some, if◌then◌else◌}
use Rattle.std.specs.List.{concat}
use Rattle.hex.specs.Hex.{encode_lower}
use Rattle.drm_bits.specs.Bits.{bits_of}
use Rattle.drm_bits.specs.Fields.{spelled}
use Rattle.drm_bits.specs.declared.description.MuxDesc.{MuxDesc}
use Rattle.drm_mux.specs.Sdci.{sdci_fields}
use Rattle.drm_mux.specs.Frame.{multiplex_frame, streams_in}
use Rattle.drm_fac.specs.Mode.{mode_letter}
use Rattle.mdi_items.specs.declared.view.SdcSpan.{SdcSpan}
use Rattle.mdi_items.specs.Frame.{Frame}
use Rattle.report_text.specs.HexBits.{hex_of_bits}

-- a block of whole bytes has four zero bits in front of it
abbrev pub front_bits : ℕ → ℕ
front_bits bits = if bits % 8 == 0 then 4 else 0

-- the bits of the block, without those in front of it
abbrev pub block_bits : List ℕ → SdcSpan → List Bool
block_bits payload span = drop (front_bits span.bits) (take span.bits (bits_of (drop span.at payload)))

abbrev pub block_text : List ℕ → Option SdcSpan → List ℕ
block_text payload None = codes "-"
block_text payload (Some span) = hex_of_bits (block_bits payload span)

-- the value of `sdci`
abbrev pub description_text : MuxDesc → List ℕ
description_text mux = hex_of_bits (spelled (sdci_fields mux))

abbrev pub bytes_text : List ℕ → List ℕ
bytes_text [] = codes "-"
bytes_text bytes = encode_lower bytes

-- the multiplex frame of the streams in the payload
abbrev pub frame_bytes : Frame → List ℕ → List ℕ
frame_bytes frame payload = multiplex_frame frame.mux (streams_in payload frame.streams)

abbrev pub frame_line : ℕ → Frame → List ℕ → List ℕ
frame_line index frame payload =
    concat (
    codes "frame " ∷ decimal index ∷ codes " dlfc " ∷ decimal frame.dlfc ∷ codes " mode " ∷ mode_letter frame.mode
    ∷ codes " fac " ∷ encode_lower frame.fac_bytes ∷ codes " sdc " ∷ block_text payload frame.sdc
    ∷ codes " mux " ∷ description_text frame.mux ∷ codes " msc " ∷ bytes_text (frame_bytes frame payload) ∷ codes "\n" ∷ [])
